-- Tests of lists: what some item passes, what is found first, and what a filter keeps.
use Rattle.std.proofs.Common.{◌≡◌, ◌∙◌, Bool, true, false, ◌&&◌, ◌||◌, cond, List, [], ◌∷◌, refl, ap, sym, inl, inr, Some, filter, find, map}
use Rattle.std.specs.List.{list_any, list_all}
use Rattle.std.specs.Option.{is_some}
use Rattle.std.proofs.lemmas.Bool.{cases_Bool, and_parts, and_from, or_cases, or_left, or_right, false≢true, cond-true, cond-false}
use Rattle.bdb_base.proofs.ListLemmas.{filter_kept_one, filter_dropped_one}

-- something is found exactly where some item passes
pub find_some : {X : Type 0} (p : X → Bool) (xs : List X) → is_some (find p xs) ≡ list_any p xs
find_some p [] = refl
find_some p (x ∷ xs) = elim (cases_Bool (p x)) [
  | inl e ↦ ap is_some (cond-true (p x) (Some x) (find p xs) e) ∙ sym (or_left (p x) (list_any p xs) e)
  | inr e ↦ ap is_some (cond-false (p x) (Some x) (find p xs) e) ∙ find_some p xs ∙ ap (λ b. b || list_any p xs) (sym e)
]

-- what fails a weaker test fails
fails_under : (a b : Bool) → (a ≡ true → b ≡ true) → b ≡ false → a ≡ false
fails_under true b w e = absurd (false≢true (sym e ∙ w refl))
fails_under false b w e = refl

pub find_kept : {X : Type 0} (p q : X → Bool) → ((x : X) → p x ≡ true → q x ≡ true) → (xs : List X) → find p (filter q xs) ≡ find p xs
find_kept p q w [] = refl
find_kept p q w (x ∷ xs) = elim (cases_Bool (q x)) [
  | inl e ↦ ap (find p) (filter_kept_one q x xs e) ∙ ap (λ o. cond (p x) (Some x) o) (find_kept p q w xs)
  | inr e ↦ ap (find p) (filter_dropped_one q x xs e) ∙ find_kept p q w xs ∙ sym (cond-false (p x) (Some x) (find p xs) (fails_under (p x) (q x) (w x) e))
]

pub filter_kept : {X : Type 0} (p q : X → Bool) → ((x : X) → p x ≡ true → q x ≡ true) → (xs : List X) → filter p (filter q xs) ≡ filter p xs
filter_kept p q w [] = refl
filter_kept p q w (x ∷ xs) = elim (cases_Bool (q x)) [
  | inl e ↦ ap (filter p) (filter_kept_one q x xs e) ∙ ap (λ ys. cond (p x) (x ∷ ys) ys) (filter_kept p q w xs)
  | inr e ↦ ap (filter p) (filter_dropped_one q x xs e) ∙ filter_kept p q w xs ∙ sym (filter_dropped_one p x xs (fails_under (p x) (q x) (w x) e))
]

-- what a filter leaves passes what its test brings
pub filter_passes : {X : Type 0} (p q : X → Bool) → ((x : X) → q x ≡ true → p x ≡ true) → (xs : List X) → list_all p (filter q xs) ≡ true
filter_passes p q w [] = refl
filter_passes p q w (x ∷ xs) = elim (cases_Bool (q x)) [
  | inl e ↦ ap (list_all p) (filter_kept_one q x xs e) ∙ and_from (p x) (list_all p (filter q xs)) (w x e) (filter_passes p q w xs)
  | inr e ↦ ap (list_all p) (filter_dropped_one q x xs e) ∙ filter_passes p q w xs
]

-- an item that one test finds, with what all items pass
pub found_with : {X : Type 0} (p q : X → Bool) (xs : List X) → list_all q xs ≡ true → list_any p xs ≡ true → (x : X) × (p x ≡ true) × (q x ≡ true)
found_with p q [] h e = absurd (false≢true e)
found_with p q (x ∷ xs) h e =
    let k = and_parts (q x) (list_all q xs) h in
    elim (or_cases (p x) (list_any p xs) e) [ inl a ↦ (x, a, k.0) | inr b ↦ found_with p q xs k.1 b ]

-- what all items pass maps alike
pub map_same_all : {X Y : Type 0} (f g : X → Y) (q : X → Bool) → ((x : X) → q x ≡ true → f x ≡ g x) → (xs : List X) → list_all q xs ≡ true → map f xs ≡ map g xs
map_same_all f g q w [] h = refl
map_same_all f g q w (x ∷ xs) h =
    let k = and_parts (q x) (list_all q xs) h in
    ap (λ y. y ∷ map f xs) (w x k.0) ∙ ap (λ ys. g x ∷ ys) (map_same_all f g q w xs k.1)

pub list_all_true : {X : Type 0} (p : X → Bool) (xs : List X) → ((x : X) → p x ≡ true) → list_all p xs ≡ true
list_all_true p [] h = refl
list_all_true p (x ∷ xs) h = and_from (p x) (list_all p xs) (h x) (list_all_true p xs h)

-- each item of a list passes what each item passes that is the same as one of the list
pub all_members : {X : Type 0} (same : X → X → Bool) → ((x : X) → same x x ≡ true) → (p : X → Bool) (xs : List X)
    → ((x : X) → list_any (λ y. same y x) xs ≡ true → p x ≡ true) → list_all p xs ≡ true
all_members same r p [] h = refl
all_members same r p (x ∷ xs) h = and_from (p x) (list_all p xs) (h x (or_left (same x x) (list_any (λ y. same y x) xs) (r x)))
    (all_members same r p xs (λ z m. h z (or_right (same x z) (list_any (λ y. same y z) xs) m)))

pub list_all-map : {X Y : Type 0} (p : Y → Bool) (f : X → Y) (xs : List X) → list_all p (map f xs) ≡ list_all (λ x. p (f x)) xs
list_all-map p f [] = refl
list_all-map p f (x ∷ xs) = ap (λ b. p (f x) && b) (list_all-map p f xs)
