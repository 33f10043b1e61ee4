-- The places of a base's structure are in range.
use Rattle.std.proofs.Common.{◌≡◌, ◌∙◌, ℕ, ◌<◌, Bool, true, ◌&&◌, nat_lt, List, [], ◌∷◌, ◌++◌, refl, ap, inl, inr, length, map}
use Rattle.std.specs.List.{list_all}
use Rattle.std.specs.Ordering.{is_eq}
use Rattle.std.specs.declared.cmp.Ordering.{Ordering}
use Rattle.std.proofs.lemmas.Bool.{cases_Bool, and_parts, and_from, or_left, or_right, cond-true, cond-false, lt-ltb}
use Rattle.std.proofs.lemmas.List.{length-map}
use Rattle.std.proofs.lemmas.List.Folds.{list_all-append}
use Rattle.std.proofs.lemmas.Option.{slice_get_within}
use Rattle.bdb_base.specs.declared.kinds.Sign.{Sign}
use Rattle.bdb_base.specs.declared.kinds.Sign.TheVariants.{Plus, Minus}
use Rattle.bdb_base.specs.declared.kinds.Stmt.{Stmt}
use Rattle.bdb_base.specs.declared.tuple.Tuple.{Tuple}
use Rattle.bdb_base.specs.Bases.{key_lengths}
use Rattle.bdb_base.specs.Order.{path_cmp, tuple_cmp}
use Rattle.bdb_base.specs.OrderLemmas.{path_exact, tuple_exact}
use Rattle.bdb_base.specs.Queries.{user_numbers}
use Rattle.bdb_base.specs.Segments.{is_suffix}
use Rattle.bdb_base.specs.SortedSet.{IsExactOrder, is_member}
use Rattle.bdb_base.specs.States.{edge_target, states_of}
use Rattle.bdb_base.specs.WorldRows.{row_at, rows_at, tuples_of, world_of}
use Rattle.bdb_base.specs.Worlds.{explicit, stated}
use Rattle.bdb_base.proofs.ListLemmas.{list_all_weaker, list_all_each}
use Rattle.bdb_base.proofs.SetLemmas.{is_eq_itself}
use Rattle.bdb_base.proofs.WorldRowsLemmas.{list_all-flat_map}
use Rattle.bdb_paths.specs.Places.{place_in}
use Rattle.bdb_canon.specs.Canonical.{edges_at, edges_from, link_place, row_entry, rows_from, world_entry}
use Rattle.bdb_canon.specs.CanonLaws.{PlacesAreInRange, is_below}
use Rattle.bdb_paths.proofs.PlaceLemmas.{member_at_place, target_within}
use Rattle.bdb_canon.proofs.PlaceLemmas.{root_is_listed}

list_all_map : {X Y : Type 0} (p : X → Bool) (q : Y → Bool) (f : X → Y) → ((x : X) → p x ≡ true → q (f x) ≡ true) → (xs : List X) → list_all p xs ≡ true → list_all q (map f xs) ≡ true
list_all_map p q f h [] a = refl
list_all_map p q f h (x ∷ xs) a =
    let k = and_parts (p x) (list_all p xs) a in
    and_from (q (f x)) (list_all q (map f xs)) (h x k.0) (list_all_map p q f h xs k.1)

-- each item of a list is a member of it
pub items_are_members : {X : Type 0} {R : X → X → Ordering} (o : IsExactOrder R) (xs : List X) → list_all (is_member R xs) xs ≡ true
items_are_members o [] = refl
items_are_members {R = R} o (x ∷ xs) = and_from (is_member R (x ∷ xs) x) (list_all (is_member R (x ∷ xs)) xs)
    (or_left (is_eq (R x x)) (is_member R xs x) (is_eq_itself o x))
    (list_all_weaker (is_member R xs) (is_member R (x ∷ xs)) (λ y h. or_right (is_eq (R x y)) (is_member R xs y) h) xs (items_are_members o xs))

pub member_within : {X : Type 0} {R : X → X → Ordering} (o : IsExactOrder R) (xs : List X) (x : X) → is_member R xs x ≡ true → place_in R xs x < length xs
member_within {R = R} o xs x h = slice_get_within xs (place_in R xs x) x (member_at_place o xs x h)

-- ---- links

link_within : (states : List (List ℕ)) (w : List ℕ) → is_member path_cmp states [] ≡ true → is_below (length states) (link_place states w) ≡ true
link_within states [] root = refl
link_within states (i ∷ w) root = lt-ltb (place_in path_cmp states _) (length states) (target_within states w root)

-- ---- edges

edge_within : (n : ℕ) (states : List (List ℕ)) (w : List ℕ) (i : ℕ) → n ≡ length states → is_member path_cmp states [] ≡ true → is_member path_cmp states w ≡ true
    → list_all (λ e. nat_lt e.from n && nat_lt e.to n) (edges_at states w i) ≡ true
edge_within n states w i l root h =
    let from = place_in path_cmp states w in
    let to = place_in path_cmp states (edge_target (is_member path_cmp states) w i) in
    elim (cases_Bool (is_suffix (i ∷ []) w)) [
      | inl e ↦ ap (list_all (λ e. nat_lt e.from n && nat_lt e.to n)) (cond-true (is_suffix (i ∷ []) w) [] (record { from = from; uid = i; to = to } ∷ []) e)
      | inr e ↦ ap (list_all (λ e. nat_lt e.from n && nat_lt e.to n)) (cond-false (is_suffix (i ∷ []) w) [] (record { from = from; uid = i; to = to } ∷ []) e)
          ∙ and_from (nat_lt from n && nat_lt to n) true
          (and_from (nat_lt from n) (nat_lt to n) (ap (nat_lt from) l ∙ lt-ltb from (length states) (member_within path_exact states w h))
          (ap (nat_lt to) l ∙ lt-ltb to (length states) (target_within states (w ++ i ∷ []) root))) refl
    ]

-- ---- rows

row_is_of : (keys : ℕ → ℕ) (stmts : List Stmt) (w : List ℕ) (t : Tuple) (s : Sign) (p : Tuple → Bool) → p t ≡ true → list_all (λ h. p h.tuple) (row_at keys stmts w t s) ≡ true
row_is_of keys stmts w t s p h = elim (cases_Bool (stated keys stmts w t s)) [
  | inl e ↦ ap (list_all (λ x. p x.tuple)) (cond-true (stated keys stmts w t s) (record { tuple = t; sign = s; explicit = explicit stmts w t s } ∷ []) [] e)
      ∙ and_from (p t) true h refl
  | inr e ↦ ap (list_all (λ x. p x.tuple)) (cond-false (stated keys stmts w t s) (record { tuple = t; sign = s; explicit = explicit stmts w t s } ∷ []) [] e)
]

-- the rows of a world are of the statements' tuples
pub world_has_tuples : (keys : ℕ → ℕ) (stmts : List Stmt) (w : List ℕ) → list_all (λ h. is_member tuple_cmp (tuples_of stmts) h.tuple) (world_of keys stmts w) ≡ true
world_has_tuples keys stmts w =
    let p = is_member tuple_cmp (tuples_of stmts) in
    list_all-flat_map p (λ h. p h.tuple) (rows_at keys stmts w)
    (λ t h. list_all-append (λ x. p x.tuple) (row_at keys stmts w t Plus) (row_at keys stmts w t Minus)
    ∙ and_from (list_all (λ x. p x.tuple) (row_at keys stmts w t Plus)) (list_all (λ x. p x.tuple) (row_at keys stmts w t Minus))
    (row_is_of keys stmts w t Plus p h) (row_is_of keys stmts w t Minus p h))
    (tuples_of stmts) (items_are_members tuple_exact (tuples_of stmts))

pub places_are_in_range : PlacesAreInRange
places_are_in_range b =
    let keys = key_lengths b.catalog.rels in
    let states = states_of b.stmts in
    let tuples = tuples_of b.stmts in
    let users = user_numbers b.catalog.users in
    let n : length (map (world_entry states) states) ≡ length states = length-map states (world_entry states) in
    let n' = length (map (world_entry states) states) in
    let root = root_is_listed b.stmts in
    let members = items_are_members path_exact states in
    record {
      links = list_all_map (λ w. true) (λ w. is_below n' w.suffix) (world_entry states) (λ w h. ap (λ m. is_below m (link_place states w)) n ∙ link_within states w root) states
          (list_all_each (λ w. true) (λ w. refl) states);
      edges = list_all-flat_map (is_member path_cmp states) (λ e. nat_lt e.from n' && nat_lt e.to n') (edges_from users states)
          (λ w h. list_all-flat_map (λ i. true) (λ e. nat_lt e.from n' && nat_lt e.to n') (edges_at states w) (λ i k. edge_within n' states w i n root h) users
          (list_all_each (λ i. true) (λ i. refl) users)) states members;
      rows = list_all-flat_map (is_member path_cmp states) (λ r. nat_lt r.world n' && nat_lt r.tuple (length tuples)) (rows_from keys b.stmts states tuples)
          (λ w h. list_all_map (λ x. is_member tuple_cmp tuples x.tuple) (λ r. nat_lt r.world n' && nat_lt r.tuple (length tuples)) (row_entry states tuples w)
          (λ x k. and_from (nat_lt (place_in path_cmp states w) n') (nat_lt (place_in tuple_cmp tuples x.tuple) (length tuples))
          (ap (nat_lt (place_in path_cmp states w)) n ∙ lt-ltb (place_in path_cmp states w) (length states) (member_within path_exact states w h))
          (lt-ltb (place_in tuple_cmp tuples x.tuple) (length tuples) (member_within tuple_exact tuples x.tuple k)))
          (world_of keys b.stmts w) (world_has_tuples keys b.stmts w)) states members;
    }
