-- How many lines the structure has.
use Rattle.std.proofs.Common.{◌≡◌, ◌∙◌, ℕ, ◌+◌, ◌-◌, ◌<◌, ◌≤◌, Bool, not, nat_lt, nat_le, List, [], ◌∷◌, refl, ap, sym, inl, inr, arith, length, take, get_or, sum_by, Some, None, length-append}
use Rattle.std.specs.List.{flat_map}
use Rattle.std.proofs.lemmas.Bool.{cases_Bool, cond-true, cond-false, leb-false, lt-leb}
use Rattle.std.proofs.lemmas.Bool.Decides.{nat_tests}
use Rattle.std.proofs.lemmas.List.{length-map}
use Rattle.std.proofs.lemmas.List.Sums.{sum_by-cons, sum_by_more, sum_by-take-le}
use Rattle.bdb_base.specs.Bases.{Contents, key_lengths}
use Rattle.bdb_base.specs.Order.{path_cmp}
use Rattle.bdb_base.specs.Queries.{user_numbers}
use Rattle.bdb_base.specs.Segments.{is_suffix}
use Rattle.bdb_base.specs.SortedSet.{is_member}
use Rattle.bdb_base.specs.States.{edge_target, states_of}
use Rattle.bdb_base.specs.WorldRows.{tuples_of, world_of}
use Rattle.bdb_base.proofs.ListLemmas.{filter_kept_one, filter_dropped_one}
use Rattle.bdb_canon.specs.declared.structure.CanonEdge.{CanonEdge}
use Rattle.bdb_paths.specs.Places.{place_in}
use Rattle.bdb_canon.specs.Canonical.{canon_of, edge_count, edges_at, edges_from, left_after, line_count, row_count, row_entry, rows_from, world_entry}

-- ---- what is left

pub left_none : (n m : ℕ) → None ≡ left_after n m → n < m
left_none n m e = elim (cases_Bool (nat_le m n)) [
  | inl t ↦ let k : None ≡ Some (n - m) = e ∙ cond-true (nat_le m n) (Some (n - m)) None t in cc
  | inr f ↦ leb-false m n f
]

-- what passes what is left passes the whole
pub passes_whole : (n e r : ℕ) → e ≤ n → nat_lt (n - e) r ≡ nat_lt n (e + r)
passes_whole n e r l = grind (arith, nat_tests)

pub sum_next : {X : Type 0} (f : X → ℕ) (xs : List X) (i : ℕ) (x : X) → i < length xs → x ≡ get_or xs i x → sum_by f (take (i + 1) xs) ≡ sum_by f (take i xs) + f x
sum_next f xs i x l is = sum_by_more f xs i x l ∙ ap (λ y. sum_by f (take i xs) + f y) (sym is)

-- a loop that takes away comes to too much
pub stops_early : {X : Type 0} (f : X → ℕ) (xs : List X) (i : ℕ) (x : X) (most left : ℕ) → i < length xs → x ≡ get_or xs i x → most ≡ left + sum_by f (take i xs) → left < f x
    → None ≡ left_after most (sum_by f xs)
stops_early f xs i x most left l is e h =
    let a = sum_next f xs i x l is in
    let b = sum_by-take-le f xs (i + 1) in
    sym (cond-false (nat_le (sum_by f xs) most) (Some (most - sum_by f xs)) None (lt-leb (sum_by f xs) most (omega arith)))

-- ---- counts

length-flat_map_same : {X Y : Type 0} (f : X → List Y) (g : X → ℕ) → ((x : X) → length (f x) ≡ g x) → (xs : List X) → length (flat_map f xs) ≡ sum_by g xs
length-flat_map_same f g h [] = refl
length-flat_map_same f g h (x ∷ xs) =
    let a = length-append (f x) (flat_map f xs) in
    let b = h x in
    let c = length-flat_map_same f g h xs in
    let d = sum_by-cons g x xs in
    omega arith

edges_of_state : (users : List ℕ) (states : List (List ℕ)) (w : List ℕ) → length (edges_from users states w) ≡ edge_count users w
edges_of_state [] states w = refl
edges_of_state (i ∷ is) states w =
    let edge : List CanonEdge = record { from = place_in path_cmp states w; uid = i; to = place_in path_cmp states (edge_target (is_member path_cmp states) w i) } ∷ [] in
    let q : ℕ → Bool = λ j. not (is_suffix (j ∷ []) w) in
    let k = edges_of_state is states w in
    let a = length-append (edges_at states w i) (edges_from is states w) in
    elim (cases_Bool (is_suffix (i ∷ []) w)) [
      | inl e ↦
          let b = ap length (cond-true (is_suffix (i ∷ []) w) [] edge e) in
          let d = ap length (filter_dropped_one q i is (ap not e)) in
          omega arith
      | inr e ↦
          let b = ap length (cond-false (is_suffix (i ∷ []) w) [] edge e) in
          let d = ap length (filter_kept_one q i is (ap not e)) in
          omega arith
    ]

-- the lines by their counts
pub lines_by_counts : (b : Contents) → line_count b.catalog (canon_of b)
    ≡ length (user_numbers b.catalog.users) + (length b.catalog.rels + (length (tuples_of b.stmts) + (length (states_of b.stmts)
    + (sum_by (edge_count (user_numbers b.catalog.users)) (states_of b.stmts) + sum_by (row_count (key_lengths b.catalog.rels) b.stmts) (states_of b.stmts)))))
lines_by_counts b =
    let keys = key_lengths b.catalog.rels in
    let users = user_numbers b.catalog.users in
    let states = states_of b.stmts in
    let tuples = tuples_of b.stmts in
    let w = length-map states (world_entry states) in
    let e = length-flat_map_same (edges_from users states) (edge_count users) (edges_of_state users states) states in
    let r = length-flat_map_same (rows_from keys b.stmts states tuples) (row_count keys b.stmts) (λ v. length-map (world_of keys b.stmts v) (row_entry states tuples v)) states in
    omega arith
