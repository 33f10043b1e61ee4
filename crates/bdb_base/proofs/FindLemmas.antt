-- The first item that passes a test, and tests of what a filter leaves.
use Rattle.std.proofs.Common.{◌≡◌, ◌∙◌, Bool, true, false, List, [], ◌∷◌, Some, None, refl, find, sym, inl, inr, ap, cond, filter, ◌&&◌, ◌||◌}
use Rattle.std.specs.List.{list_any, list_all}
use Rattle.std.proofs.lemmas.Bool.{or_parts, cond-false, cases_Bool, or_from, cond-true, and_parts, false_from_ne_true, false≢true}
use Rattle.bdb_base.proofs.ListLemmas.{filter_kept_one, filter_dropped_one}

pub find_none : {X : Type 0} (p : X → Bool) (xs : List X) → list_any p xs ≡ false → find p xs ≡ None
find_none p [] e = refl
find_none p (x ∷ xs) e =
    let h = or_parts (p x) (list_any p xs) e in
    cond-false (p x) (Some x) (find p xs) h.0 ∙ find_none p xs h.1

pub none_found : {X : Type 0} (p : X → Bool) (xs : List X) → find p xs ≡ None → list_any p xs ≡ false
none_found p [] e = refl
none_found p (x ∷ xs) e = elim (cases_Bool (p x)) [
  | inl h ↦ absurd (let found : Some x ≡ None = sym (cond-true (p x) (Some x) (find p xs) h) ∙ e in cc)
  | inr h ↦ or_from (p x) (list_any p xs) h (none_found p xs (sym (cond-false (p x) (Some x) (find p xs) h) ∙ e))
]

-- the first item that passes a test passes what all items pass
pub find_all : {X : Type 0} (p q : X → Bool) (xs : List X) (x : X) → list_all q xs ≡ true → find p xs ≡ Some x → q x ≡ true
find_all p q [] x h e = cc
find_all p q (y ∷ ys) x h e =
    let m = and_parts (q y) (list_all q ys) h in
    elim (cases_Bool (p y)) [
      | inl k ↦
          let same : Some y ≡ Some x = sym (cond-true (p y) (Some y) (find p ys) k) ∙ e in
          let is : y ≡ x = cc in
          ap q (sym is) ∙ m.0
      | inr k ↦ find_all p q ys x m.1 (sym (cond-false (p y) (Some y) (find p ys) k) ∙ e)
    ]

pub find_same : {X : Type 0} (p q : X → Bool) → ((x : X) → p x ≡ q x) → (xs : List X) → find p xs ≡ find q xs
find_same p q h [] = refl
find_same p q h (x ∷ xs) = ap (λ b. cond b (Some x) (find p xs)) (h x) ∙ ap (λ o. cond (q x) (Some x) o) (find_same p q h xs)

pub list_any-filter : {X : Type 0} (p q : X → Bool) (xs : List X) → list_any p (filter q xs) ≡ list_any (λ x. q x && p x) xs
list_any-filter p q [] = refl
list_any-filter p q (x ∷ xs) = elim (cases_Bool (q x)) [
  | inl e ↦ ap (list_any p) (filter_kept_one q x xs e) ∙ ap (λ b. p x || b) (list_any-filter p q xs) ∙ sym (ap (λ b. (b && p x) || list_any (λ y. q y && p y) xs) e)
  | inr e ↦ ap (list_any p) (filter_dropped_one q x xs e) ∙ list_any-filter p q xs ∙ sym (ap (λ b. (b && p x) || list_any (λ y. q y && p y) xs) e)
]

-- a filter keeps what passes a test that is no weaker
pub list_any-filter_same : {X : Type 0} (p q : X → Bool) → ((x : X) → p x ≡ true → q x ≡ true) → (xs : List X) → list_any p (filter q xs) ≡ list_any p xs
list_any-filter_same p q h [] = refl
list_any-filter_same p q h (x ∷ xs) = elim (cases_Bool (q x)) [
  | inl e ↦ ap (list_any p) (filter_kept_one q x xs e) ∙ ap (λ b. p x || b) (list_any-filter_same p q h xs)
  | inr e ↦
      let n : p x ≡ false = false_from_ne_true (p x) (λ t. false≢true (sym e ∙ h x t)) in
      ap (list_any p) (filter_dropped_one q x xs e) ∙ list_any-filter_same p q h xs ∙ ap (λ b. b || list_any p xs) (sym n)
]
