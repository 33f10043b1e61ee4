-- Neighbours that ascend make statements that are in order and do not clash.
use Rattle.std.proofs.Common.{◌≡◌, ◌∙◌, ◌⊎◌, ℕ, Bool, true, false, not, ◌&&◌, ◌||◌, nat_eq, nat_le, List, [], ◌∷◌, length, filter, refl, ap, sym, inl, inr}
use Rattle.std.specs.Bool.{MatchBool}
use Rattle.std.specs.List.{list_all, list_any}
use Rattle.std.specs.declared.cmp.Ordering.{Ordering}
use Rattle.std.specs.declared.cmp.Ordering.TheVariants.{Less, Equal, Greater}
use Rattle.std.specs.Ordering.{nat_cmp, is_eq, is_lt, ordering_then}
use Rattle.std.specs.Cmp.{IsTotalOrder}
use Rattle.std.proofs.lemmas.Bool.{cases_Bool, and_parts, and_from, and_right, or_parts, or_from, false≢true, not_from_false, cond-true, cond-false, not-true}
use Rattle.std.proofs.lemmas.Cmp.{then_total, on_total, nat_cmp_total}
use Rattle.bdb_base.specs.Bases.{AreStatements, belongs, key_lengths, tuple_count, world_count}
use Rattle.bdb_base.specs.Clash.{clash, key_of, same_key}
use Rattle.bdb_base.specs.Limits.{most_statements, most_tuples, most_worlds}
use Rattle.bdb_base.specs.Order.{row_cmp, path_cmp, tuple_cmp, sign_cmp, statement_cmp}
use Rattle.bdb_base.specs.OrderLemmas.{path_total, row_total, tuple_total, statement_exact, is_eq_path_cmp, is_eq_tuple_cmp, is_eq_row_cmp, is_eq_nat_cmp}
use Rattle.bdb_base.specs.Same.{same_path, same_tuple, same_values, same_sign}
use Rattle.bdb_base.specs.SameLemmas.{same_path-Decides}
use Rattle.bdb_base.specs.SortedSet.{ascending}
use Rattle.bdb_base.specs.declared.kinds.Catalog.{Catalog}
use Rattle.bdb_base.specs.declared.kinds.Sign.{Sign}
use Rattle.bdb_base.specs.declared.kinds.Sign.TheVariants.{Plus, Minus}
use Rattle.bdb_base.specs.declared.kinds.Stmt.{Stmt}
use Rattle.bdb_base.specs.declared.tuple.Tuple.{Tuple}
use Rattle.bdb_base.proofs.BaseLemmas.{clash_itself}
use Rattle.bdb_base.proofs.ClashLemmas.{turned, clash_is_symmetric}
use Rattle.bdb_base.proofs.ListLemmas.{list_all_weaker, list_all_both, list_all_from_none, list_all-filter, filter_kept_one, filter_dropped_one}
use Rattle.bdb_base.proofs.SetLemmas.{is_lt-Less, filter_keeps_order}
use Rattle.bdb_update.proofs.ClashingLemmas.{keys_tell}
use Rattle.bdb_decode.specs.Statements.{are_consistent, are_few, are_ordered_apart, below_next, below_plus, climbs, group_cmp, is_plus, place_cmp, plus_climb}

-- ---- neighbours, and all pairs

not_equal_less : Equal ≡ Less → ⊥
not_equal_less e = false≢true (ap is_lt e)

not_greater_less : Greater ≡ Less → ⊥
not_greater_less e = false≢true (ap is_lt e)

module _ {X : Type 0} where
  climbs_ascend : (R : X → X → Ordering) → IsTotalOrder R → (xs : List X) → climbs R xs ≡ true → ascending R xs ≡ true
  climbs_ascend R o [] h = refl
  climbs_ascend R o (x ∷ xs) h =
      let k = and_parts (below_next R x xs) (climbs R xs) h in
      let up = climbs_ascend R o xs k.1 in
      and_from (list_all (λ y. is_lt (R x y)) xs) (ascending R xs) (above xs k.0 up) up
    where
      above : (ys : List X) → below_next R x ys ≡ true → ascending R ys ≡ true → list_all (λ y. is_lt (R x y)) ys ≡ true
      above [] b up = refl
      above (y ∷ ys) b up =
          and_from (is_lt (R x y)) (list_all (λ z. is_lt (R x z)) ys) b
          (list_all_weaker (λ z. is_lt (R y z)) (λ z. is_lt (R x z)) (λ z m. ap is_lt (o.trans x y z (is_lt-Less (R x y) b) (is_lt-Less (R y z) m))) ys
          (and_parts (list_all (λ z. is_lt (R y z)) ys) (ascending R ys) up).0)

  ascend_climbs : (R : X → X → Ordering) (xs : List X) → ascending R xs ≡ true → climbs R xs ≡ true
  ascend_climbs R [] h = refl
  ascend_climbs R (x ∷ xs) h =
      let k = and_parts (list_all (λ y. is_lt (R x y)) xs) (ascending R xs) h in
      and_from (below_next R x xs) (climbs R xs) (next xs k.0) (ascend_climbs R xs k.1)
    where
      next : (ys : List X) → list_all (λ y. is_lt (R x y)) ys ≡ true → below_next R x ys ≡ true
      next [] a = refl
      next (y ∷ ys) a = (and_parts (is_lt (R x y)) (list_all (λ z. is_lt (R x z)) ys) a).0

  -- no item passes a test with a later one
  abbrev pairwise : (X → X → Bool) → List X → Bool
  pairwise T [] = true
  pairwise T (x ∷ xs) = list_all (λ y. not (T x y)) xs && pairwise T xs

  -- no item passes a test with any
  abbrev none_with : (X → X → Bool) → List X → List X → Bool
  none_with T all xs = list_all (λ x. not (list_any (T x) all)) xs

  pairs_from_all : (T : X → X → Bool) (xs : List X) → none_with T xs xs ≡ true → pairwise T xs ≡ true
  pairs_from_all T [] h = refl
  pairs_from_all T (x ∷ xs) h =
      let k = and_parts (not (list_any (T x) (x ∷ xs))) (none_with T (x ∷ xs) xs) h in
      and_from (list_all (λ y. not (T x y)) xs) (pairwise T xs)
      (list_all_from_none (T x) (λ y. not (T x y)) (λ y e. not_from_false (T x y) e) xs (or_parts (T x x) (list_any (T x) xs) (not-true (list_any (T x) (x ∷ xs)) k.0)).1)
      (pairs_from_all T xs (list_all_weaker (λ z. not (list_any (T z) (x ∷ xs))) (λ z. not (list_any (T z) xs))
      (λ z e. not_from_false (list_any (T z) xs) (or_parts (T z x) (list_any (T z) xs) (not-true (list_any (T z) (x ∷ xs)) e)).1) xs k.1))

  none_from : (T : X → X → Bool) (x : X) (ys : List X) → list_all (λ y. not (T x y)) ys ≡ true → list_any (T x) ys ≡ false
  none_from T x [] h = refl
  none_from T x (y ∷ ys) h =
      let k = and_parts (not (T x y)) (list_all (λ z. not (T x z)) ys) h in
      or_from (T x y) (list_any (T x) ys) (not-true (T x y) k.0) (none_from T x ys k.1)

  all_from_pairs : (T : X → X → Bool) → ((x y : X) → T x y ≡ T y x) → ((x : X) → T x x ≡ false) → (xs : List X) → pairwise T xs ≡ true → none_with T xs xs ≡ true
  all_from_pairs T t s [] h = refl
  all_from_pairs T t s (x ∷ xs) h =
      let k = and_parts (list_all (λ y. not (T x y)) xs) (pairwise T xs) h in
      and_from (not (list_any (T x) (x ∷ xs))) (none_with T (x ∷ xs) xs)
      (not_from_false (list_any (T x) (x ∷ xs)) (or_from (T x x) (list_any (T x) xs) (s x) (none_from T x xs k.0)))
      (list_all_both (λ z. not (T x z)) (λ z. not (list_any (T z) xs)) (λ z. not (list_any (T z) (x ∷ xs)))
      (λ z a b. not_from_false (list_any (T z) (x ∷ xs)) (or_from (T z x) (list_any (T z) xs) (t z x ∙ not-true (T x z) a) (not-true (list_any (T z) xs) b)))
      xs k.0 (all_from_pairs T t s xs k.1))

  -- another order of the same list, where it agrees for pairs that fail a test
  ascending_by : (R S : X → X → Ordering) (T : X → X → Bool) (p : X → Bool)
      → ((x y : X) → p x ≡ true → p y ≡ true → R x y ≡ Less → T x y ≡ false → S x y ≡ Less)
      → (xs : List X) → list_all p xs ≡ true → pairwise T xs ≡ true → ascending R xs ≡ true → ascending S xs ≡ true
  ascending_by R S T p w [] a t h = refl
  ascending_by R S T p w (x ∷ xs) a t h =
      let m = and_parts (p x) (list_all p xs) a in
      let k = and_parts (list_all (λ y. not (T x y)) xs) (pairwise T xs) t in
      let u = and_parts (list_all (λ y. is_lt (R x y)) xs) (ascending R xs) h in
      and_from (list_all (λ y. is_lt (S x y)) xs) (ascending S xs) (above m.0 xs m.1 k.0 u.0) (ascending_by R S T p w xs m.1 k.1 u.1)
    where
      above : p x ≡ true → (ys : List X) → list_all p ys ≡ true → list_all (λ y. not (T x y)) ys ≡ true → list_all (λ y. is_lt (R x y)) ys ≡ true → list_all (λ y. is_lt (S x y)) ys ≡ true
      above own [] a t h = refl
      above own (y ∷ ys) a t h =
          let m = and_parts (p y) (list_all p ys) a in
          let k = and_parts (not (T x y)) (list_all (λ z. not (T x z)) ys) t in
          let u = and_parts (is_lt (R x y)) (list_all (λ z. is_lt (R x z)) ys) h in
          and_from (is_lt (S x y)) (list_all (λ z. is_lt (S x z)) ys) (ap is_lt (w x y own m.0 (is_lt-Less (R x y) u.0) (not-true (T x y) k.0))) (above own ys m.1 k.1 u.1)

  filter_passes : (q : X → Bool) (xs : List X) → list_all q (filter q xs) ≡ true
  filter_passes q [] = refl
  filter_passes q (x ∷ xs) = elim (cases_Bool (q x)) [
    | inl e ↦ ap (list_all q) (filter_kept_one q x xs e) ∙ and_from (q x) (list_all q (filter q xs)) e (filter_passes q xs)
    | inr e ↦ ap (list_all q) (filter_dropped_one q x xs e) ∙ filter_passes q xs
  ]

  pairwise_filter : (T : X → X → Bool) (q : X → Bool) (xs : List X) → pairwise T xs ≡ true → pairwise T (filter q xs) ≡ true
  pairwise_filter T q [] h = refl
  pairwise_filter T q (x ∷ xs) h =
      let k = and_parts (list_all (λ y. not (T x y)) xs) (pairwise T xs) h in
      elim (cases_Bool (q x)) [
        | inl e ↦ ap (pairwise T) (filter_kept_one q x xs e)
            ∙ and_from (list_all (λ y. not (T x y)) (filter q xs)) (pairwise T (filter q xs)) (list_all-filter (λ y. not (T x y)) q xs k.0) (pairwise_filter T q xs k.1)
        | inr e ↦ ap (pairwise T) (filter_dropped_one q x xs e) ∙ pairwise_filter T q xs k.1
      ]

  -- what holds of those that pass a test, told of all
  from_filter : (p q : X → Bool) (xs : List X) → list_all p (filter q xs) ≡ true → list_all (λ y. not (q y) || p y) xs ≡ true
  from_filter p q [] h = refl
  from_filter p q (x ∷ xs) h = elim (cases_Bool (q x)) [
    | inl e ↦
        let k = and_parts (p x) (list_all p (filter q xs)) (sym (ap (list_all p) (filter_kept_one q x xs e)) ∙ h) in
        and_from (not (q x) || p x) (list_all (λ y. not (q y) || p y) xs) (ap (λ b. not b || p x) e ∙ k.0) (from_filter p q xs k.1)
    | inr e ↦ and_from (not (q x) || p x) (list_all (λ y. not (q y) || p y) xs) (ap (λ b. not b || p x) e)
        (from_filter p q xs (sym (ap (list_all p) (filter_dropped_one q x xs e)) ∙ h))
  ]

-- ---- plus statements alone

below_filtered : (keys : ℕ → ℕ) (x : Stmt) (ys : List Stmt) → below_plus keys x ys ≡ below_next (group_cmp keys) x (filter is_plus ys)
below_filtered keys x [] = refl
below_filtered keys x (y ∷ ys) = elim (cases_Bool (is_plus y)) [
  | inl e ↦ cond-true (is_plus y) (is_lt (group_cmp keys x y)) (below_plus keys x ys) e ∙ sym (ap (below_next (group_cmp keys) x) (filter_kept_one is_plus y ys e))
  | inr e ↦ cond-false (is_plus y) (is_lt (group_cmp keys x y)) (below_plus keys x ys) e ∙ below_filtered keys x ys
      ∙ sym (ap (below_next (group_cmp keys) x) (filter_dropped_one is_plus y ys e))
]

plus_climb_filtered : (keys : ℕ → ℕ) (xs : List Stmt) → plus_climb keys xs ≡ climbs (group_cmp keys) (filter is_plus xs)
plus_climb_filtered keys [] = refl
plus_climb_filtered keys (x ∷ xs) = elim (cases_Bool (is_plus x)) [
  | inl e ↦ ap (λ b. (not b || below_plus keys x xs) && plus_climb keys xs) e
      ∙ ap (λ b. b && plus_climb keys xs) (below_filtered keys x xs)
      ∙ ap (λ b. below_next (group_cmp keys) x (filter is_plus xs) && b) (plus_climb_filtered keys xs)
      ∙ sym (ap (climbs (group_cmp keys)) (filter_kept_one is_plus x xs e))
  | inr e ↦ ap (λ b. (not b || below_plus keys x xs) && plus_climb keys xs) e ∙ plus_climb_filtered keys xs ∙ sym (ap (climbs (group_cmp keys)) (filter_dropped_one is_plus x xs e))
]

-- ---- the orders

place_total : IsTotalOrder place_cmp
place_total = then_total (on_total (λ (x : Stmt). x.path) path_total) (on_total (λ (x : Stmt). x.tuple) tuple_total)

group_total : (keys : ℕ → ℕ) → IsTotalOrder (group_cmp keys)
group_total keys = then_total (on_total (λ (x : Stmt). x.path) path_total)
    (then_total (on_total (λ (x : Stmt). x.tuple.rel) nat_cmp_total) (on_total (λ (x : Stmt). key_of keys x.tuple) row_total))

-- what the parts of an order say that answers Less
less_of_two : (p t s : Ordering) → ordering_then p (ordering_then t s) ≡ Less → (ordering_then p t ≡ Less) ⊎ ((p ≡ Equal) × (t ≡ Equal) × (s ≡ Less))
less_of_two Less t s h = inl refl
less_of_two Equal Less s h = inl refl
less_of_two Equal Equal s h = inr (refl, refl, h)
less_of_two Equal Greater s h = absurd (not_greater_less h)
less_of_two Greater t s h = absurd (not_greater_less h)

two_of_less : (p t s : Ordering) → ordering_then p t ≡ Less → ordering_then p (ordering_then t s) ≡ Less
two_of_less Less t s h = refl
two_of_less Equal Less s h = refl
two_of_less Equal Equal s h = absurd (not_equal_less h)
two_of_less Equal Greater s h = absurd (not_greater_less h)
two_of_less Greater t s h = absurd (not_greater_less h)

less_of_group : (p n v k : Ordering) → (n ≡ Equal → (k ≡ Equal) ⊎ (k ≡ v)) → ordering_then p (ordering_then (ordering_then n v) Equal) ≡ Less
    → (ordering_then p (ordering_then n k) ≡ Less) ⊎ ((p ≡ Equal) × (n ≡ Equal) × (k ≡ Equal) × (v ≡ Less))
less_of_group Less n v k d h = inl refl
less_of_group Equal Less v k d h = inl refl
less_of_group Equal Equal Less k d h = elim (d refl) [ inl e ↦ inr (refl, refl, e, refl) | inr e ↦ inl e ]
less_of_group Equal Equal Equal k d h = absurd (not_equal_less h)
less_of_group Equal Equal Greater k d h = absurd (not_greater_less h)
less_of_group Equal Greater v k d h = absurd (not_greater_less h)
less_of_group Greater n v k d h = absurd (not_greater_less h)

-- ---- which statements clash

-- a statement is at the path of another and clashes with it
abbrev opposes : (ℕ → ℕ) → Stmt → Stmt → Bool
opposes keys x y = same_path y.path x.path && clash keys x.tuple x.sign y.tuple y.sign

opposes_turned : (keys : ℕ → ℕ) (x y : Stmt) → opposes keys x y ≡ opposes keys y x
opposes_turned keys x y = ap (λ b. b && clash keys x.tuple x.sign y.tuple y.sign) (turned same_path same_path-Decides y.path x.path)
    ∙ ap (λ b. same_path x.path y.path && b) (clash_is_symmetric keys x.tuple y.tuple x.sign y.sign)

opposes_itself : (keys : ℕ → ℕ) (x : Stmt) → opposes keys x x ≡ false
opposes_itself keys x = and_right (same_path x.path x.path) (clash keys x.tuple x.sign x.tuple x.sign) (clash_itself keys x.tuple x.sign)

is_plus_Plus : (s : Sign) → same_sign s Plus ≡ true → s ≡ Plus
is_plus_Plus Plus h = refl
is_plus_Plus Minus h = absurd (false≢true h)

-- of one tuple with a lower sign: plus and minus
signs_clash : (keys : ℕ → ℕ) (t u : Tuple) (a b : Sign) → sign_cmp a b ≡ Less → clash keys t a u b ≡ same_tuple t u
signs_clash keys t u Plus Plus h = absurd (not_equal_less h)
signs_clash keys t u Plus Minus h = refl
signs_clash keys t u Minus Plus h = absurd (not_greater_less h)
signs_clash keys t u Minus Minus h = absurd (not_equal_less h)

same_path_at : (x y : Stmt) → path_cmp x.path y.path ≡ Equal → same_path y.path x.path ≡ true
same_path_at x y e = turned same_path same_path-Decides y.path x.path ∙ sym (is_eq_path_cmp x.path y.path) ∙ ap is_eq e

-- in order and no clash: below by path and tuple
place_below : (keys : ℕ → ℕ) (x y : Stmt) → statement_cmp x y ≡ Less → opposes keys x y ≡ false → place_cmp x y ≡ Less
place_below keys x y h o = elim (less_of_two (path_cmp x.path y.path) (tuple_cmp x.tuple y.tuple) (sign_cmp x.sign y.sign) h) [
  | inl e ↦ e
  | inr e ↦ absurd (false≢true (sym o ∙ and_from (same_path y.path x.path) (clash keys x.tuple x.sign y.tuple y.sign) (same_path_at x y e.0)
      (signs_clash keys x.tuple y.tuple x.sign y.sign e.2 ∙ sym (is_eq_tuple_cmp x.tuple y.tuple) ∙ ap is_eq e.1)))
]

-- two plus ones in order and no clash: below by path, relation and key
group_below : (keys : ℕ → ℕ) (x y : Stmt) → is_plus x ≡ true → is_plus y ≡ true → statement_cmp x y ≡ Less → opposes keys x y ≡ false → group_cmp keys x y ≡ Less
group_below keys x y px py h o =
    let sx : x.sign ≡ Plus = is_plus_Plus x.sign px in
    let sy : y.sign ≡ Plus = is_plus_Plus y.sign py in
    let p = path_cmp x.path y.path in
    let n = nat_cmp x.tuple.rel y.tuple.rel in
    let v = row_cmp x.tuple.vals y.tuple.vals in
    let k = row_cmp (key_of keys x.tuple) (key_of keys y.tuple) in
    let less : ordering_then p (ordering_then (ordering_then n v) Equal) ≡ Less =
    sym (ap (λ s. ordering_then p (ordering_then (ordering_then n v) (sign_cmp s y.sign))) sx ∙ ap (λ s. ordering_then p (ordering_then (ordering_then n v) (sign_cmp Plus s))) sy) ∙ h in
    elim (less_of_group p n v k (keys_tell keys x.tuple y.tuple) less) [
      | inl e ↦ e
      | inr e ↦
          let rel : nat_eq x.tuple.rel y.tuple.rel ≡ true = sym (is_eq_nat_cmp x.tuple.rel y.tuple.rel) ∙ ap is_eq e.1 in
          let key : same_values (key_of keys x.tuple) (key_of keys y.tuple) ≡ true = sym (is_eq_row_cmp (key_of keys x.tuple) (key_of keys y.tuple)) ∙ ap is_eq e.2 in
          let differ : same_tuple x.tuple y.tuple ≡ false = sym (is_eq_tuple_cmp x.tuple y.tuple) ∙ ap is_eq (ap (λ r. ordering_then r v) e.1 ∙ e.3) in
          let clashing : clash keys x.tuple Plus y.tuple Plus ≡ true =
          and_from (same_key keys x.tuple y.tuple) (not (same_tuple x.tuple y.tuple))
          (and_from (nat_eq x.tuple.rel y.tuple.rel) (same_values (key_of keys x.tuple) (key_of keys y.tuple)) rel key) (not_from_false (same_tuple x.tuple y.tuple) differ) in
          absurd (false≢true (sym o ∙ and_from (same_path y.path x.path) (clash keys x.tuple x.sign y.tuple y.sign) (same_path_at x y e.0)
          (ap (λ s. clash keys x.tuple s y.tuple y.sign) sx ∙ ap (λ s. clash keys x.tuple Plus y.tuple s) sy ∙ clashing)))
    ]

-- ---- statements that are below one another don't clash

then_ties : (p q : Ordering) → ordering_then p q ≡ Less → is_eq p ≡ true → is_eq q ≡ true → ⊥
then_ties Less q h a b = false≢true a
then_ties Equal Less h a b = false≢true b
then_ties Equal Equal h a b = not_equal_less h
then_ties Equal Greater h a b = false≢true b
then_ties Greater q h a b = false≢true a

not_one_tuple : (x y : Stmt) → place_cmp x y ≡ Less → same_path y.path x.path ≡ true → same_tuple x.tuple y.tuple ≡ true → ⊥
not_one_tuple x y h a b = then_ties (path_cmp x.path y.path) (tuple_cmp x.tuple y.tuple) h
    (is_eq_path_cmp x.path y.path ∙ turned same_path same_path-Decides x.path y.path ∙ a) (is_eq_tuple_cmp x.tuple y.tuple ∙ b)

three_ties : (n k : Ordering) → is_eq n ≡ true → is_eq k ≡ true → is_eq (ordering_then n k) ≡ true
three_ties Less k a b = absurd (false≢true a)
three_ties Equal k a b = b
three_ties Greater k a b = absurd (false≢true a)

not_one_group : (keys : ℕ → ℕ) (x y : Stmt) → group_cmp keys x y ≡ Less → same_path y.path x.path ≡ true → same_key keys x.tuple y.tuple ≡ true → ⊥
not_one_group keys x y h a b =
    let n = nat_cmp x.tuple.rel y.tuple.rel in
    let k = row_cmp (key_of keys x.tuple) (key_of keys y.tuple) in
    let m = and_parts (nat_eq x.tuple.rel y.tuple.rel) (same_values (key_of keys x.tuple) (key_of keys y.tuple)) b in
    then_ties (path_cmp x.path y.path) (ordering_then n k) h (is_eq_path_cmp x.path y.path ∙ turned same_path same_path-Decides x.path y.path ∙ a)
    (three_ties n k (is_eq_nat_cmp x.tuple.rel y.tuple.rel ∙ m.0) (is_eq_row_cmp (key_of keys x.tuple) (key_of keys y.tuple) ∙ m.1))

-- the group of y is above that of x where both are plus
abbrev plus_below : (ℕ → ℕ) → Stmt → Stmt → Bool
plus_below keys x y = not (is_plus x && is_plus y) || is_lt (group_cmp keys x y)

clash_tells : (keys : ℕ → ℕ) (t u : Tuple) (a b : Sign) → clash keys t a u b ≡ true → (same_tuple t u ≡ true) ⊎ ((a ≡ Plus) × (b ≡ Plus) × (same_key keys t u ≡ true))
clash_tells keys t u Plus Plus h = inr (refl, refl, (and_parts (same_key keys t u) (not (same_tuple t u)) h).0)
clash_tells keys t u Plus Minus h = inl h
clash_tells keys t u Minus Plus h = inl h
clash_tells keys t u Minus Minus h = absurd (false≢true h)

apart_pair : (keys : ℕ → ℕ) (x y : Stmt) → is_lt (place_cmp x y) ≡ true → plus_below keys x y ≡ true → not (opposes keys x y) ≡ true
apart_pair keys x y h g = by (opposes keys x y) refl
  where
    fails : opposes keys x y ≡ true → ⊥
    fails o =
        let k = and_parts (same_path y.path x.path) (clash keys x.tuple x.sign y.tuple y.sign) o in
        elim (clash_tells keys x.tuple y.tuple x.sign y.sign k.1) [
          | inl e ↦ not_one_tuple x y (is_lt-Less (place_cmp x y) h) k.0 e
          | inr e ↦ not_one_group keys x y
              (is_lt-Less (group_cmp keys x y)
              (sym (ap (λ s. not (same_sign s Plus && is_plus y) || is_lt (group_cmp keys x y)) e.0 ∙ ap (λ s. not (same_sign s Plus) || is_lt (group_cmp keys x y)) e.1) ∙ g)) k.0 e.2
        ]

    by : (b : Bool) → opposes keys x y ≡ b → not b ≡ true
    by true o = absurd (fails o)
    by false o = refl

plus_below_all : (keys : ℕ → ℕ) (x : Stmt) (xs : List Stmt) → ascending (group_cmp keys) (filter is_plus (x ∷ xs)) ≡ true → list_all (plus_below keys x) xs ≡ true
plus_below_all keys x xs h = elim (cases_Bool (is_plus x)) [
  | inl e ↦
      let k = and_parts (list_all (λ y. is_lt (group_cmp keys x y)) (filter is_plus xs)) (ascending (group_cmp keys) (filter is_plus xs)) (sym (ap (ascending (group_cmp keys)) (filter_kept_one is_plus x xs e)) ∙ h) in
      list_all_weaker (λ y. not (is_plus y) || is_lt (group_cmp keys x y)) (plus_below keys x) (λ y m. ap (λ b. not (b && is_plus y) || is_lt (group_cmp keys x y)) e ∙ m) xs
      (from_filter (λ y. is_lt (group_cmp keys x y)) is_plus xs k.0)
  | inr e ↦ all_so xs e
]
  where
    all_so : (ys : List Stmt) → is_plus x ≡ false → list_all (plus_below keys x) ys ≡ true
    all_so [] e = refl
    all_so (y ∷ ys) e = and_from (plus_below keys x y) (list_all (plus_below keys x) ys) (ap (λ b. not (b && is_plus y) || is_lt (group_cmp keys x y)) e) (all_so ys e)

plus_rest : (keys : ℕ → ℕ) (x : Stmt) (xs : List Stmt) → ascending (group_cmp keys) (filter is_plus (x ∷ xs)) ≡ true → ascending (group_cmp keys) (filter is_plus xs) ≡ true
plus_rest keys x xs h = elim (cases_Bool (is_plus x)) [
  | inl e ↦
      (and_parts (list_all (λ y. is_lt (group_cmp keys x y)) (filter is_plus xs)) (ascending (group_cmp keys) (filter is_plus xs)) (sym (ap (ascending (group_cmp keys)) (filter_kept_one is_plus x xs e)) ∙ h)).1
  | inr e ↦ sym (ap (ascending (group_cmp keys)) (filter_dropped_one is_plus x xs e)) ∙ h
]

apart_pairs : (keys : ℕ → ℕ) (xs : List Stmt) → ascending place_cmp xs ≡ true → ascending (group_cmp keys) (filter is_plus xs) ≡ true → pairwise (opposes keys) xs ≡ true
apart_pairs keys [] h g = refl
apart_pairs keys (x ∷ xs) h g =
    let k = and_parts (list_all (λ y. is_lt (place_cmp x y)) xs) (ascending place_cmp xs) h in
    and_from (list_all (λ y. not (opposes keys x y)) xs) (pairwise (opposes keys) xs)
    (list_all_both (λ y. is_lt (place_cmp x y)) (plus_below keys x) (λ y. not (opposes keys x y)) (λ y a b. apart_pair keys x y a b) xs k.0 (plus_below_all keys x xs g))
    (apart_pairs keys xs k.1 (plus_rest keys x xs g))

in_order : (xs : List Stmt) → ascending place_cmp xs ≡ true → ascending statement_cmp xs ≡ true
in_order [] h = refl
in_order (x ∷ xs) h =
    let k = and_parts (list_all (λ y. is_lt (place_cmp x y)) xs) (ascending place_cmp xs) h in
    and_from (list_all (λ y. is_lt (statement_cmp x y)) xs) (ascending statement_cmp xs)
    (list_all_weaker (λ y. is_lt (place_cmp x y)) (λ y. is_lt (statement_cmp x y))
    (λ y m. ap is_lt (two_of_less (path_cmp x.path y.path) (tuple_cmp x.tuple y.tuple) (sign_cmp x.sign y.sign) (is_lt-Less (place_cmp x y) m))) xs k.0)
    (in_order xs k.1)

-- ---- the tests are exact

abbrev no_clash : (ℕ → ℕ) → List Stmt → Bool
no_clash keys xs = none_with (opposes keys) xs xs

record IsApart (keys : ℕ → ℕ) (xs : List Stmt) : Type 0 where
  sorted : ascending statement_cmp xs ≡ true
  no_clash : no_clash keys xs ≡ true

apart_holds : (keys : ℕ → ℕ) (xs : List Stmt) → are_ordered_apart keys xs ≡ true → IsApart keys xs
apart_holds keys xs h =
    let k = and_parts (climbs place_cmp xs) (plus_climb keys xs) h in
    let up = climbs_ascend place_cmp place_total xs k.0 in
    let plus = climbs_ascend (group_cmp keys) (group_total keys) (filter is_plus xs) (sym (plus_climb_filtered keys xs) ∙ k.1) in
    record { sorted = in_order xs up; no_clash = all_from_pairs (opposes keys) (opposes_turned keys) (opposes_itself keys) xs (apart_pairs keys xs up plus) }

every : (xs : List Stmt) → list_all (λ _. true) xs ≡ true
every [] = refl
every (x ∷ xs) = every xs

apart_passes : (keys : ℕ → ℕ) (xs : List Stmt) → ascending statement_cmp xs ≡ true → no_clash keys xs ≡ true → are_ordered_apart keys xs ≡ true
apart_passes keys xs up free =
    let pairs = pairs_from_all (opposes keys) xs free in
    let places = ascending_by statement_cmp place_cmp (opposes keys) (λ _. true) (λ x y _ _ h o. place_below keys x y h o) xs (every xs) pairs up in
    let groups = ascending_by statement_cmp (group_cmp keys) (opposes keys) is_plus (group_below keys) (filter is_plus xs) (filter_passes is_plus xs)
    (pairwise_filter (opposes keys) is_plus xs pairs) (filter_keeps_order statement_exact is_plus xs up) in
    and_from (climbs place_cmp xs) (plus_climb keys xs) (ascend_climbs place_cmp xs places) (plus_climb_filtered keys xs ∙ ascend_climbs (group_cmp keys) (filter is_plus xs) groups)

pub statements_hold : (c : Catalog) (xs : List Stmt) → are_consistent c xs ≡ true → are_few xs ≡ true → AreStatements c xs
statements_hold c xs h few =
    let k = and_parts (list_all (belongs c) xs) (are_ordered_apart (key_lengths c.rels) xs) h in
    let a = apart_holds (key_lengths c.rels) xs k.1 in
    let n = and_parts (nat_le (length xs) most_statements) (nat_le (tuple_count xs) most_tuples && nat_le (world_count xs) most_worlds) few in
    let m = and_parts (nat_le (tuple_count xs) most_tuples) (nat_le (world_count xs) most_worlds) n.1 in
    record { sorted = a.sorted; belong = k.0; no_clash = a.no_clash; few_stmts = n.0; few_tuples = m.0; few_worlds = m.1 }

pub consistent_passes : (c : Catalog) (xs : List Stmt) → AreStatements c xs → are_consistent c xs ≡ true
consistent_passes c xs h = and_from (list_all (belongs c) xs) (are_ordered_apart (key_lengths c.rels) xs) h.belong (apart_passes (key_lengths c.rels) xs h.sorted h.no_clash)

pub few_passes : (c : Catalog) (xs : List Stmt) → AreStatements c xs → are_few xs ≡ true
few_passes c xs h =
    and_from (nat_le (length xs) most_statements) (nat_le (tuple_count xs) most_tuples && nat_le (world_count xs) most_worlds) h.few_stmts
    (and_from (nat_le (tuple_count xs) most_tuples) (nat_le (world_count xs) most_worlds) h.few_tuples h.few_worlds)

pub inconsistent : (c : Catalog) (xs : List Stmt) → are_consistent c xs ≡ false → AreStatements c xs → ⊥
inconsistent c xs e h = false≢true (sym e ∙ consistent_passes c xs h)

pub tells_few : (c : Catalog) (xs : List Stmt) (few : Bool) → are_consistent c xs ≡ true → few ≡ are_few xs → MatchBool few (AreStatements c xs) (AreStatements c xs → ⊥)
tells_few c xs true h e = statements_hold c xs h (sym e)
tells_few c xs false h e = λ a. false≢true (e ∙ few_passes c xs a)
