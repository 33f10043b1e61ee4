-- The rows of the structure stand for the worlds of all paths.
use Rattle.std.proofs.Common.{◌≡◌, ◌∙◌, ℕ, Bool, true, false, ◌&&◌, ◌||◌, nat_eq, List, [], ◌∷◌, refl, ap, sym, inl, inr, arith, Some, slice_get}
use Rattle.std.specs.List.{list_any, list_all}
use Rattle.std.specs.Ordering.{is_eq}
use Rattle.std.specs.declared.cmp.Ordering.{Ordering}
use Rattle.std.proofs.lemmas.Bool.{cases_Bool, and_parts, false≢true, false_from_ne_true, cond-true, cond-false, eqb-true, eq-eqb}
use Rattle.std.proofs.lemmas.List.Folds.{list_any-append}
use Rattle.bdb_base.specs.declared.kinds.Held.{Held}
use Rattle.bdb_base.specs.declared.kinds.Sign.{Sign}
use Rattle.bdb_base.specs.declared.kinds.Sign.TheVariants.{Plus, Minus}
use Rattle.bdb_base.specs.declared.kinds.Stmt.{Stmt}
use Rattle.bdb_base.specs.declared.tuple.Tuple.{Tuple}
use Rattle.bdb_base.specs.Bases.{key_lengths}
use Rattle.bdb_base.specs.Order.{path_cmp, tuple_cmp}
use Rattle.bdb_base.specs.OrderLemmas.{path_exact, tuple_exact}
use Rattle.bdb_base.specs.Same.{same_sign}
use Rattle.bdb_base.specs.SortedSet.{IsExactOrder, is_member}
use Rattle.bdb_base.specs.States.{deepest_suffix, states_of}
use Rattle.bdb_base.specs.WorldRows.{row_at, rows_at, tuples_of, world_of}
use Rattle.bdb_base.specs.Worlds.{explicit, stated}
use Rattle.bdb_base.proofs.CountLemmas.{list_any-map}
use Rattle.bdb_base.proofs.SetLemmas.{is_eq-Equal, is_eq_itself}
use Rattle.bdb_base.proofs.WorldRowsLemmas.{list_any-flat_map, stated_is_member}
use Rattle.bdb_base.proofs.ListLemmas.{or_false, list_any_under}
use Rattle.bdb_paths.proofs.SuffixLemmas.{deepest_is_member, states_stand_for_paths}
use Rattle.bdb_canon.specs.declared.structure.CanonRow.{CanonRow}
use Rattle.bdb_paths.specs.Places.{place_in}
use Rattle.bdb_canon.specs.Canonical.{row_entry, rows_from}
use Rattle.bdb_canon.specs.CanonLaws.{RowsStandForPaths}
use Rattle.bdb_paths.proofs.PlaceLemmas.{member_at_place, place_missing}
use Rattle.bdb_canon.proofs.PlaceLemmas.{listed_deepest, root_is_listed}
use Rattle.bdb_canon.proofs.RangeLemmas.{items_are_members, member_within}

-- tests that agree at each item that passes a third one find the same
list_any_agree : {X : Type 0} (P p q : X → Bool) → ((x : X) → P x ≡ true → p x ≡ q x) → (xs : List X) → list_all P xs ≡ true → list_any p xs ≡ list_any q xs
list_any_agree P p q h [] a = refl
list_any_agree P p q h (x ∷ xs) a =
    let k = and_parts (P x) (list_all P xs) a in
    ap (λ b. b || list_any p xs) (h x k.0) ∙ ap (λ b. q x || b) (list_any_agree P p q h xs k.1)

and_turned : (a b : Bool) → (a && b) ≡ (b && a)
and_turned true true = refl
and_turned true false = refl
and_turned false true = refl
and_turned false false = refl

module _ {X : Type 0} {R : X → X → Ordering} (o : IsExactOrder R) where
  -- two items have one place exactly where they are the same, if the first one is a member
  place_decides : (xs : List X) (x y : X) → is_member R xs x ≡ true → nat_eq (place_in R xs x) (place_in R xs y) ≡ is_eq (R x y)
  place_decides xs x y m = elim (cases_Bool (is_eq (R x y))) [
    | inl e ↦ eq-eqb (place_in R xs x) (place_in R xs y) (ap (place_in R xs) (o.exact x y (is_eq-Equal (R x y) e))) ∙ sym e
    | inr e ↦ false_from_ne_true (nat_eq (place_in R xs x) (place_in R xs y)) (λ t. false≢true (sym e ∙ same (eqb-true (place_in R xs x) (place_in R xs y) t))) ∙ sym e
  ]
    where
      same : place_in R xs x ≡ place_in R xs y → is_eq (R x y) ≡ true
      same p = elim (cases_Bool (is_member R xs y)) [
        | inl n ↦
            let k : Some x ≡ Some y = sym (member_at_place o xs x m) ∙ ap (slice_get xs) p ∙ member_at_place o xs y n in
            let j : x ≡ y = cc in
            ap (λ z. is_eq (R x z)) (sym j) ∙ is_eq_itself o x
        | inr n ↦
            let a = member_within o xs x m in
            let b = place_missing o xs y n in
            absurd (omega arith)
      ]

  -- what a test finds at one member
  found_at : (xs : List X) (y : X) (g : X → Bool) → is_member R xs y ≡ true → list_any (λ x. is_eq (R x y) && g x) xs ≡ g y
  found_at xs y g m =
      list_any_agree (λ x. true) (λ x. is_eq (R x y) && g x) (λ x. g y && is_eq (R x y)) (λ x h. here x) xs (all xs)
      ∙ list_any_under (g y) (λ x. is_eq (R x y)) xs ∙ ap (λ b. g y && b) m ∙ and_turned (g y) true
    where
      all : (zs : List X) → list_all (λ x. true) zs ≡ true
      all [] = refl
      all (z ∷ zs) = all zs

      here : (x : X) → (is_eq (R x y) && g x) ≡ (g y && is_eq (R x y))
      here x = elim (cases_Bool (is_eq (R x y))) [
        | inl e ↦ ap (λ b. b && g x) e ∙ ap g (o.exact x y (is_eq-Equal (R x y) e)) ∙ sym (and_turned (g y) true) ∙ ap (λ b. g y && b) (sym e)
        | inr e ↦ ap (λ b. b && g x) e ∙ sym (and_turned (g y) false) ∙ ap (λ b. g y && b) (sym e)
      ]

-- ---- a world's row for a tuple

-- a row is of the tuple at a place, with a sign
abbrev is_of : List Tuple → ℕ → Sign → Held → Bool
is_of tuples at s h = nat_eq (place_in tuple_cmp tuples h.tuple) at && same_sign h.sign s

row_found : (keys : ℕ → ℕ) (stmts : List Stmt) (w : List ℕ) (t : Tuple) (r : Sign) (q : Held → Bool) (b : Bool)
    → ((e : Bool) → q (record { tuple = t; sign = r; explicit = e }) ≡ b) → list_any q (row_at keys stmts w t r) ≡ (stated keys stmts w t r && b)
row_found keys stmts w t r q b h = elim (cases_Bool (stated keys stmts w t r)) [
  | inl e ↦ ap (list_any q) (cond-true (stated keys stmts w t r) (record { tuple = t; sign = r; explicit = explicit stmts w t r } ∷ []) [] e)
      ∙ or_false (q (record { tuple = t; sign = r; explicit = explicit stmts w t r })) ∙ h (explicit stmts w t r) ∙ ap (λ c. c && b) (sym e)
  | inr e ↦ ap (list_any q) (cond-false (stated keys stmts w t r) (record { tuple = t; sign = r; explicit = explicit stmts w t r } ∷ []) [] e)
      ∙ ap (λ c. c && b) (sym e)
]

-- of two signs, one is the sign that is looked for
by_sign : (p m a : Bool) (f : Sign → Bool) (s : Sign) → f Plus ≡ p → f Minus ≡ m → ((p && (a && same_sign Plus s)) || (m && (a && same_sign Minus s))) ≡ (a && f s)
by_sign p m true f Plus hp hm = ap (λ b. (p && true) || b) (and_turned m false) ∙ or_false (p && true) ∙ and_turned p true ∙ sym hp
by_sign p m true f Minus hp hm = ap (λ b. b || (m && true)) (and_turned p false) ∙ and_turned m true ∙ sym hm
by_sign p m false f s hp hm = ap (λ b. b || (m && false)) (and_turned p false) ∙ and_turned m false

pub world_row_found : (keys : ℕ → ℕ) (stmts : List Stmt) (w : List ℕ) (t : Tuple) (s : Sign)
    → list_any (is_of (tuples_of stmts) (place_in tuple_cmp (tuples_of stmts) t) s) (world_of keys stmts w) ≡ stated keys stmts w t s
world_row_found keys stmts w t s =
    list_any-flat_map q (rows_at keys stmts w) tuples
    ∙ list_any_agree (is_member tuple_cmp tuples) (λ u. list_any q (rows_at keys stmts w u)) (λ u. is_eq (tuple_cmp u t) && stated keys stmts w u s) at tuples (items_are_members tuple_exact tuples)
    ∙ elim (cases_Bool (is_member tuple_cmp tuples t)) [
      | inl m ↦ found_at tuple_exact tuples t (λ u. stated keys stmts w u s) m
      | inr m ↦ none tuples m ∙ sym (false_from_ne_true (stated keys stmts w t s) (λ e. false≢true (sym m ∙ stated_is_member keys stmts w t s e)))
    ]
  where
    tuples : List Tuple
    tuples = tuples_of stmts

    q : Held → Bool
    q = is_of (tuples_of stmts) (place_in tuple_cmp (tuples_of stmts) t) s

    at : (u : Tuple) → is_member tuple_cmp (tuples_of stmts) u ≡ true → list_any q (rows_at keys stmts w u) ≡ (is_eq (tuple_cmp u t) && stated keys stmts w u s)
    at u m =
        let a = nat_eq (place_in tuple_cmp (tuples_of stmts) u) (place_in tuple_cmp (tuples_of stmts) t) in
        list_any-append q (row_at keys stmts w u Plus) (row_at keys stmts w u Minus)
        ∙ ap (λ b. b || list_any q (row_at keys stmts w u Minus)) (row_found keys stmts w u Plus q (a && same_sign Plus s) (λ e. refl))
        ∙ ap (λ b. (stated keys stmts w u Plus && (a && same_sign Plus s)) || b) (row_found keys stmts w u Minus q (a && same_sign Minus s) (λ e. refl))
        ∙ by_sign (stated keys stmts w u Plus) (stated keys stmts w u Minus) a (λ r. stated keys stmts w u r) s refl refl
        ∙ ap (λ b. b && stated keys stmts w u s) (place_decides tuple_exact (tuples_of stmts) u t m)

    none : (us : List Tuple) → is_member tuple_cmp us t ≡ false → list_any (λ u. is_eq (tuple_cmp u t) && stated keys stmts w u s) us ≡ false
    none [] m = refl
    none (u ∷ us) m = elim (cases_Bool (is_eq (tuple_cmp u t))) [
      | inl e ↦ absurd (false≢true (sym m ∙ ap (λ b. b || is_member tuple_cmp us t) e))
      | inr e ↦ ap (λ b. (b && stated keys stmts w u s) || list_any (λ v. is_eq (tuple_cmp v t) && stated keys stmts w v s) us) e
          ∙ none us (ap (λ b. b || is_member tuple_cmp us t) (sym e) ∙ m)
    ]

-- ---- the structure's row for a state and a tuple

pub rows_stand_for_paths : RowsStandForPaths
rows_stand_for_paths b w t s =
    list_any-flat_map p (rows_from keys stmts states tuples) states
    ∙ list_any_agree (is_member path_cmp states) (λ v. list_any p (rows_from keys stmts states tuples v)) (λ v. is_eq (path_cmp v deepest) && stated keys stmts v t s) at states (items_are_members path_exact states)
    ∙ found_at path_exact states deepest (λ v. stated keys stmts v t s) (deepest_is_member (is_member path_cmp states) w (root_is_listed stmts))
    ∙ ap (λ v. stated keys stmts v t s) (listed_deepest stmts w) ∙ sym (states_stand_for_paths keys stmts w t s)
  where
    keys : ℕ → ℕ
    keys = key_lengths b.catalog.rels

    stmts : List Stmt
    stmts = b.stmts

    states : List (List ℕ)
    states = states_of b.stmts

    tuples : List Tuple
    tuples = tuples_of b.stmts

    deepest : List ℕ
    deepest = deepest_suffix (is_member path_cmp (states_of b.stmts)) w

    place : ℕ
    place = place_in tuple_cmp (tuples_of b.stmts) t

    p : CanonRow → Bool
    p r = nat_eq r.world (place_in path_cmp (states_of b.stmts) (deepest_suffix (is_member path_cmp (states_of b.stmts)) w))
        && (nat_eq r.tuple (place_in tuple_cmp (tuples_of b.stmts) t) && same_sign r.sign s)

    at : (v : List ℕ) → is_member path_cmp (states_of b.stmts) v ≡ true
        → list_any p (rows_from (key_lengths b.catalog.rels) b.stmts (states_of b.stmts) (tuples_of b.stmts) v)
        ≡ (is_eq (path_cmp v (deepest_suffix (is_member path_cmp (states_of b.stmts)) w)) && stated (key_lengths b.catalog.rels) b.stmts v t s)
    at v m =
        let here = nat_eq (place_in path_cmp (states_of b.stmts) v) (place_in path_cmp (states_of b.stmts) (deepest_suffix (is_member path_cmp (states_of b.stmts)) w)) in
        let q = is_of (tuples_of b.stmts) (place_in tuple_cmp (tuples_of b.stmts) t) s in
        list_any-map p (row_entry (states_of b.stmts) (tuples_of b.stmts) v) (world_of (key_lengths b.catalog.rels) b.stmts v)
        ∙ list_any_under here q (world_of (key_lengths b.catalog.rels) b.stmts v)
        ∙ ap (λ c. here && c) (world_row_found (key_lengths b.catalog.rels) b.stmts v t s)
        ∙ ap (λ c. c && stated (key_lengths b.catalog.rels) b.stmts v t s)
        (place_decides path_exact (states_of b.stmts) v (deepest_suffix (is_member path_cmp (states_of b.stmts)) w) m)
