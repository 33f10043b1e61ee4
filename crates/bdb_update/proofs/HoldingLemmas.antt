-- In statements of one path, in order, a tuple stands where those below it end.
use Rattle.std.proofs.Common.{◌≡◌, ◌∙◌, ◌⊎◌, ℕ, ◌<◌, zero, suc, Bool, true, false, not, ◌&&◌, ◌||◌, List, [], ◌∷◌, length, get_or, drop, refl, ap, sym, arith, inl, inr}
use Rattle.std.specs.List.{list_all}
use Rattle.std.specs.List.Sorted.{IsPartitionPoint, IsPartitionedBy}
use Rattle.std.specs.declared.cmp.Ordering.{Ordering}
use Rattle.std.specs.declared.cmp.Ordering.TheVariants.{Less, Equal, Greater}
use Rattle.std.specs.Ordering.{is_eq, is_gt, is_lt, ordering_then}
use Rattle.std.proofs.lemmas.Bool.{cases_Bool, and_parts, and_from, or_from, or_left, false≢true, true≢false}
use Rattle.bdb_base.specs.Bases.{has_tuple}
use Rattle.bdb_base.specs.Order.{path_cmp, tuple_cmp, sign_cmp, statement_cmp}
use Rattle.bdb_base.specs.OrderLemmas.{tuple_total, tuple_exact, is_eq_path_cmp, is_eq_tuple_cmp}
use Rattle.bdb_base.specs.Same.{same_path, same_tuple}
use Rattle.bdb_base.specs.SameLemmas.{same_path-Decides}
use Rattle.bdb_base.specs.SortedSet.{ascending}
use Rattle.bdb_base.specs.declared.kinds.Stmt.{Stmt}
use Rattle.bdb_base.specs.declared.tuple.Tuple.{Tuple}
use Rattle.bdb_base.proofs.ListLemmas.{list_any_fails}
use Rattle.bdb_base.proofs.SetLemmas.{is_lt-Less, is_eq-Equal, cases_Ordering, is_eq_turned}
use Rattle.bdb_update.specs.Holding.{AreOfOnePath, begins_with}

-- no tuple is above a later one
abbrev no_later_below : Tuple → List Stmt → Bool
no_later_below t ys = list_all (λ y. not (is_gt (tuple_cmp t y.tuple))) ys

abbrev tuples_rise : List Stmt → Bool
tuples_rise [] = true
tuples_rise (x ∷ xs) = no_later_below x.tuple xs && tuples_rise xs

not_above : (p t s : Ordering) → is_eq p ≡ true → ordering_then p (ordering_then t s) ≡ Less → not (is_gt t) ≡ true
not_above Less t s e h = absurd (false≢true e)
not_above Equal Less s e h = refl
not_above Equal Equal s e h = refl
not_above Equal Greater s e h = absurd (false≢true (ap is_lt h))
not_above Greater t s e h = absurd (false≢true e)

one_path : (w : List ℕ) (x y : Stmt) → same_path x.path w ≡ true → same_path y.path w ≡ true → is_eq (path_cmp x.path y.path) ≡ true
one_path w x y a b =
    is_eq_path_cmp x.path y.path ∙ (same_path-Decides x.path y.path).1 ((same_path-Decides x.path w).0 a ∙ sym ((same_path-Decides y.path w).0 b))

later_rise : (w : List ℕ) (x : Stmt) (ys : List Stmt) → same_path x.path w ≡ true → list_all (λ y. same_path y.path w) ys ≡ true → list_all (λ y. is_lt (statement_cmp x y)) ys ≡ true → no_later_below x.tuple ys ≡ true
later_rise w x [] a b h = refl
later_rise w x (y ∷ ys) a b h =
    let k = and_parts (same_path y.path w) (list_all (λ z. same_path z.path w) ys) b in
    let m = and_parts (is_lt (statement_cmp x y)) (list_all (λ z. is_lt (statement_cmp x z)) ys) h in
    and_from (not (is_gt (tuple_cmp x.tuple y.tuple))) (no_later_below x.tuple ys)
    (not_above (path_cmp x.path y.path) (tuple_cmp x.tuple y.tuple) (sign_cmp x.sign y.sign) (one_path w x y a k.0) (is_lt-Less (statement_cmp x y) m.0))
    (later_rise w x ys a k.1 m.1)

path_rises : (w : List ℕ) (xs : List Stmt) → list_all (λ x. same_path x.path w) xs ≡ true → ascending statement_cmp xs ≡ true → tuples_rise xs ≡ true
path_rises w [] b s = refl
path_rises w (x ∷ xs) b s =
    let k = and_parts (same_path x.path w) (list_all (λ y. same_path y.path w) xs) b in
    let m = and_parts (list_all (λ y. is_lt (statement_cmp x y)) xs) (ascending statement_cmp xs) s in
    and_from (no_later_below x.tuple xs) (tuples_rise xs) (later_rise w x xs k.0 k.1 m.0) (path_rises w xs k.1 m.1)

-- ---- the search

abbrev is_below : Tuple → Stmt → Bool
is_below t x = is_lt (tuple_cmp x.tuple t)

not_gt : (r : Ordering) → not (is_gt r) ≡ true → is_gt r ≡ false
not_gt Less h = refl
not_gt Equal h = refl
not_gt Greater h = absurd (false≢true h)

-- what is not above one that is below is below
below_then : (t u v : Tuple) → not (is_gt (tuple_cmp t u)) ≡ true → is_lt (tuple_cmp u v) ≡ true → is_lt (tuple_cmp t v) ≡ true
below_then t u v a b = elim (cases_Ordering (tuple_cmp t u)) [
  | inl l ↦ ap is_lt (tuple_total.trans t u v l (is_lt-Less (tuple_cmp u v) b))
  | inr (inl l) ↦ ap is_lt (tuple_total.congr t u v l) ∙ b
  | inr (inr l) ↦ absurd (false≢true (sym (ap (λ r. not (is_gt r)) l) ∙ a))
]

below_at : (t u : Tuple) (ys : List Stmt) (k : ℕ) (d : Stmt) → no_later_below t ys ≡ true → k < length ys → is_below u (get_or ys k d) ≡ true → is_lt (tuple_cmp t u) ≡ true
below_at t u [] k d h l b = absurd (omega arith)
below_at t u (y ∷ ys) zero d h l b = below_then t y.tuple u (and_parts (not (is_gt (tuple_cmp t y.tuple))) (no_later_below t ys) h).0 b
below_at t u (y ∷ ys) (suc k) d h l b = below_at t u ys k d (and_parts (not (is_gt (tuple_cmp t y.tuple))) (no_later_below t ys) h).1 (omega arith) b

rise_parted : (t : Tuple) (xs : List Stmt) → tuples_rise xs ≡ true → IsPartitionedBy (is_below t) xs
rise_parted t [] a i k d l h s = absurd (omega arith)
rise_parted t (x ∷ xs) a zero zero d l h s = s
rise_parted t (x ∷ xs) a zero (suc k) d l h s = below_at x.tuple t xs k d (and_parts (no_later_below x.tuple xs) (tuples_rise xs) a).0 (omega arith) s
rise_parted t (x ∷ xs) a (suc i) zero d l h s = absurd (omega arith)
rise_parted t (x ∷ xs) a (suc i) (suc k) d l h s = rise_parted t xs (and_parts (no_later_below x.tuple xs) (tuples_rise xs) a).1 i k d (omega arith) (omega arith) s

-- which tuples are the one that is looked for
same_is : (t : Tuple) (x : Stmt) → same_tuple t x.tuple ≡ is_eq (tuple_cmp x.tuple t)
same_is t x = sym (is_eq_tuple_cmp t x.tuple) ∙ is_eq_turned tuple_exact t x.tuple

below_is_other : (r : Ordering) → is_lt r ≡ true → is_eq r ≡ false
below_is_other Less h = refl
below_is_other Equal h = absurd (false≢true h)
below_is_other Greater h = absurd (false≢true h)

above_is_greater : (r : Ordering) → is_lt r ≡ false → is_eq r ≡ false → r ≡ Greater
above_is_greater Less a b = absurd (true≢false a)
above_is_greater Equal a b = absurd (true≢false b)
above_is_greater Greater a b = refl

-- those that are not below another one, which is above a tuple, are others
later_are_others : (t u : Tuple) (ys : List Stmt) → tuple_cmp u t ≡ Greater → no_later_below u ys ≡ true → has_tuple ys t ≡ false
later_are_others t u ys g h =
    list_any_fails (λ y. not (is_gt (tuple_cmp u y.tuple))) (λ y. same_tuple t y.tuple) (λ y k. other y k (cases_Bool (same_tuple t y.tuple))) ys h
  where
    other : (y : Stmt) → not (is_gt (tuple_cmp u y.tuple)) ≡ true → (same_tuple t y.tuple ≡ true) ⊎ (same_tuple t y.tuple ≡ false) → same_tuple t y.tuple ≡ false
    other y k (inr e) = e
    other y k (inl e) =
        let one : t ≡ y.tuple = tuple_exact.exact t y.tuple (is_eq-Equal (tuple_cmp t y.tuple) (is_eq_tuple_cmp t y.tuple ∙ e)) in
        absurd (false≢true (sym (ap (λ r. not (is_gt r)) (ap (tuple_cmp u) (sym one) ∙ g)) ∙ k))

from_point : (t : Tuple) (xs : List Stmt) (n : ℕ) → tuples_rise xs ≡ true → IsPartitionPoint (λ x. is_below t x ≡ true) (λ x. is_below t x ≡ false) xs n → begins_with (drop n xs) t ≡ has_tuple xs t
from_point t [] zero a p = refl
from_point t [] (suc n) a p = refl
from_point t (x ∷ xs) zero a p =
    let k = and_parts (no_later_below x.tuple xs) (tuples_rise xs) a in
    let low : is_below t x ≡ false = p.1 0 x (omega arith) (omega arith) in
    elim (cases_Bool (same_tuple t x.tuple)) [
      | inl e ↦ e ∙ sym (or_left (same_tuple t x.tuple) (has_tuple xs t) e)
      | inr e ↦ e ∙ sym (or_from (same_tuple t x.tuple) (has_tuple xs t) e (later_are_others t x.tuple xs (above_is_greater (tuple_cmp x.tuple t) low (sym (same_is t x) ∙ e)) k.0))
    ]
from_point t (x ∷ xs) (suc n) a p =
    let k = and_parts (no_later_below x.tuple xs) (tuples_rise xs) a in
    let low : is_below t x ≡ true = p.0 0 x (omega arith) (omega arith) in
    from_point t xs n k.1 ((λ i d l m. p.0 (suc i) d (omega arith) (omega arith)), (λ i d l m. p.1 (suc i) d (omega arith) (omega arith)))
    ∙ sym (ap (λ b. b || has_tuple xs t) (same_is t x ∙ below_is_other (tuple_cmp x.tuple t) low))

pub parted : (t : Tuple) (xs : List Stmt) → AreOfOnePath xs → IsPartitionedBy (λ x. is_lt (tuple_cmp x.tuple t)) xs
parted t xs h = rise_parted t xs (path_rises h.path xs h.here h.sorted)

pub found_from : (t : Tuple) (xs : List Stmt) (n : ℕ) → AreOfOnePath xs → IsPartitionPoint (λ x. is_lt (tuple_cmp x.tuple t) ≡ true) (λ x. is_lt (tuple_cmp x.tuple t) ≡ false) xs n → begins_with (drop n xs) t ≡ has_tuple xs t
found_from t xs n h p = from_point t xs n (path_rises h.path xs h.here h.sorted) p
