-- Places of items.
use Rattle.std.proofs.Common.{◌≡◌, ◌∙◌, ℕ, suc, ◌+◌, Bool, true, nat_eq, List, [], ◌∷◌, ◌++◌, Some, inl, inr, refl, ap, sym, subst, arith}
use Prim.Native.Nat.{zero}
use Rattle.std.specs.List.{slice_get}
use Rattle.std.proofs.lemmas.Bool.{false≢true, cases_Bool, cond-true, cond-false, or_cases, or_left, or_right, eqb-true}
use Rattle.std.proofs.lemmas.Bool.Decides.{Decides-eqb}
use Rattle.std.proofs.lemmas.List.Folds.{list_any-append}
use Rattle.bdb_base.specs.declared.kinds.Item.{Item}
use Rattle.bdb_base.specs.declared.kinds.Item.TheVariants.{Users, Rel}
use Rattle.bdb_base.specs.declared.kinds.Sign.TheVariants.{Plus, Minus}
use Rattle.bdb_plan.specs.Fitness.{is_among}
use Rattle.bdb_plan.specs.PlanOf.{places, is_users, is_plus, is_minus_item, order_of}
use Rattle.bdb_trans.proofs.ItemLemmas.{Each}

pub each_of_all : (F : ℕ → Type 0) (xs : List ℕ) → ((at : ℕ) → F at) → Each F xs
each_of_all F [] h = tt
each_of_all F (x ∷ xs) h = (h x, each_of_all F xs h)

pub each_at : (F : ℕ → Type 0) (xs : List ℕ) (at : ℕ) → Each F xs → is_among xs at ≡ true → F at
each_at F [] at h e = absurd (false≢true e)
each_at F (x ∷ xs) at h e = elim (or_cases (nat_eq at x) (is_among xs at) e) [
  | inl k ↦ subst F (sym (eqb-true at x k)) h.0
  | inr k ↦ each_at F xs at h.1 k
]

pub from_zero : {X : Type 0} (xs : List X) (k : ℕ) → slice_get xs (0 + k) ≡ slice_get xs k
from_zero xs k = ap (slice_get xs) (same k)
  where
    same : (k : ℕ) → 0 + k ≡ k
    same k = omega arith

-- the place of an item that passes is among them
place_among : (p : Item → Bool) (items : List Item) (at k : ℕ) (item : Item) → slice_get items k ≡ Some item → p item ≡ true → is_among (places p at items) (at + k) ≡ true
place_among p [] at k item e h = cc
place_among p (x ∷ items) at zero item e h =
    let is : x ≡ item = cc in
    let same : at + zero ≡ at = omega arith in
    ap (λ xs. is_among xs (at + zero)) (cond-true (p x) (at ∷ places p (at + 1) items) (places p (at + 1) items) (ap p is ∙ h))
    ∙ or_left (nat_eq (at + zero) at) (is_among (places p (at + 1) items) (at + zero)) ((Decides-eqb (at + zero) at).1 same)
place_among p (x ∷ items) at (suc k) item e h =
    let same : (at + 1) + k ≡ at + suc k = omega arith in
    let rest : is_among (places p (at + 1) items) (at + suc k) ≡ true = ap (is_among (places p (at + 1) items)) (sym same) ∙ place_among p items (at + 1) k item e h in
    elim (cases_Bool (p x)) [
      | inl m ↦
          ap (λ xs. is_among xs (at + suc k)) (cond-true (p x) (at ∷ places p (at + 1) items) (places p (at + 1) items) m)
          ∙ or_right (nat_eq (at + suc k) at) (is_among (places p (at + 1) items) (at + suc k)) rest
      | inr m ↦ ap (λ xs. is_among xs (at + suc k)) (cond-false (p x) (at ∷ places p (at + 1) items) (places p (at + 1) items) m) ∙ rest
    ]

pub place_found : (p : Item → Bool) (items : List Item) (k : ℕ) (item : Item) → slice_get items k ≡ Some item → p item ≡ true → is_among (places p 0 items) k ≡ true
place_found p items k item e h = ap (is_among (places p 0 items)) (sym (same k)) ∙ place_among p items 0 k item e h
  where
    same : (k : ℕ) → 0 + k ≡ k
    same k = omega arith

pub among_front : (xs ys : List ℕ) (at : ℕ) → is_among xs at ≡ true → is_among (xs ++ ys) at ≡ true
among_front xs ys at h = list_any-append (nat_eq at) xs ys ∙ or_left (is_among xs at) (is_among ys at) h

pub among_back : (xs ys : List ℕ) (at : ℕ) → is_among ys at ≡ true → is_among (xs ++ ys) at ≡ true
among_back xs ys at h = list_any-append (nat_eq at) xs ys ∙ or_right (is_among xs at) (is_among ys at) h

-- each place of an item is in the order of items
pub in_order : (items : List Item) (k : ℕ) (item : Item) → slice_get items k ≡ Some item → is_among (order_of items) k ≡ true
in_order items k (Users alias) e = among_front (places is_users 0 items) (places is_plus 0 items ++ places is_minus_item 0 items) k (place_found is_users items k (Users alias) e refl)
in_order items k (Rel alias rel Plus path) e =
    among_back (places is_users 0 items) (places is_plus 0 items ++ places is_minus_item 0 items) k
    (among_front (places is_plus 0 items) (places is_minus_item 0 items) k (place_found is_plus items k (Rel alias rel Plus path) e refl))
in_order items k (Rel alias rel Minus path) e =
    among_back (places is_users 0 items) (places is_plus 0 items ++ places is_minus_item 0 items) k
    (among_back (places is_plus 0 items) (places is_minus_item 0 items) k (place_found is_minus_item items k (Rel alias rel Minus path) e refl))
