-- What is found in lists that are made of others.
use Rattle.std.proofs.Common.{◌≡◌, ◌∙◌, ℕ, Bool, true, false, not, ◌&&◌, ◌||◌, List, [], ◌∷◌, inl, inr, refl, ap, sym, suc, None, Some, Option, filter, map}
use Prim.Native.Nat.{zero}
use Rattle.std.specs.List.{list_any, list_all, slice_get, flat_map}
use Rattle.std.specs.Option.{option_map}
use Rattle.std.proofs.lemmas.Bool.{false≢true, cases_Bool, or_cases, or_left, or_right, and_parts, and_from}
use Rattle.bdb_base.proofs.CountLemmas.{list_any-map}
use Rattle.bdb_base.proofs.WorldRowsLemmas.{list_any-flat_map}
use Rattle.bdb_base.proofs.FindLemmas.{list_any-filter}

-- an item is in a list: each test that it passes finds one there
abbrev pub Found : {X : Type 0} → X → List X → Type 0
Found {X} x xs = (p : X → Bool) → p x ≡ true → list_any p xs ≡ true

pub found_first : {X : Type 0} (x : X) (xs : List X) → Found x (x ∷ xs)
found_first x xs p e = or_left (p x) (list_any p xs) e

pub found_later : {X : Type 0} (x y : X) (xs : List X) → Found x xs → Found x (y ∷ xs)
found_later x y xs h p e = or_right (p y) (list_any p xs) (h p e)

pub found-map : {X Y : Type 0} (f : X → Y) (xs : List X) (x : X) → Found x xs → Found (f x) (map f xs)
found-map f xs x h p e = list_any-map p f xs ∙ h (λ y. p (f y)) e

pub found-flat_map : {X Y : Type 0} (f : X → List Y) (xs : List X) (x : X) (y : Y) → Found x xs → Found y (f x) → Found y (flat_map f xs)
found-flat_map f xs x y h g p e = list_any-flat_map p f xs ∙ h (λ z. list_any p (f z)) (g p e)

pub found-filter : {X : Type 0} (q : X → Bool) (xs : List X) (x : X) → Found x xs → q x ≡ true → Found x (filter q xs)
found-filter q xs x h e p k = list_any-filter p q xs ∙ h (λ y. q y && p y) (and_from (q x) (p x) e k)

-- what stands at a place is in the list
pub found_at : {X : Type 0} (xs : List X) (at : ℕ) (x : X) → slice_get xs at ≡ Some x → Found x xs
found_at [] at x e p k = cc
found_at (y ∷ ys) zero x e p k =
    let s : y ≡ x = cc in
    or_left (p y) (list_any p ys) (ap p s ∙ k)
found_at (y ∷ ys) (suc at) x e p k = or_right (p y) (list_any p ys) (found_at ys at x e p k)

-- what passes at each place passes throughout
pub list_all_from_gets : {X : Type 0} (p : X → Bool) (xs : List X) → ((at : ℕ) (x : X) → slice_get xs at ≡ Some x → p x ≡ true) → list_all p xs ≡ true
list_all_from_gets p [] h = refl
list_all_from_gets p (x ∷ xs) h = and_from (p x) (list_all p xs) (h 0 x refl) (list_all_from_gets p xs (λ at y e. h (suc at) y e))

-- where all items pass one test and some item another, some item passes what follows from both
pub list_any_both : {X : Type 0} (p q r : X → Bool) → ((x : X) → p x ≡ true → q x ≡ true → r x ≡ true) → (xs : List X) → list_all p xs ≡ true → list_any q xs ≡ true → list_any r xs ≡ true
list_any_both p q r w [] h g = g
list_any_both p q r w (x ∷ xs) h g =
    let k = and_parts (p x) (list_all p xs) h in
    elim (or_cases (q x) (list_any q xs) g) [
      | inl a ↦ or_left (r x) (list_any r xs) (w x k.0 a)
      | inr a ↦ or_right (r x) (list_any r xs) (list_any_both p q r w xs k.1 a)
    ]

-- an item that passes both
pub found_both : {X : Type 0} (p q : X → Bool) (xs : List X) → list_all p xs ≡ true → list_any q xs ≡ true → (x : X) × (p x ≡ true) × (q x ≡ true)
found_both p q [] h g = absurd (false≢true g)
found_both p q (x ∷ xs) h g =
    let k = and_parts (p x) (list_all p xs) h in
    elim (or_cases (q x) (list_any q xs) g) [ inl a ↦ (x, k.0, a) | inr a ↦ found_both p q xs k.1 a ]

-- what an option with a function at its value has
pub option_map_some : {X Y : Type 0} (f : X → Y) (o : Option X) (y : Y) → option_map f o ≡ Some y → (x : X) × (o ≡ Some x) × (f x ≡ y)
option_map_some f None y e = cc
option_map_some f (Some x) y e = (x, refl, cc)

-- some item that passes is in the list
pub found_with : {X : Type 0} (p : X → Bool) (xs : List X) → list_any p xs ≡ true → (x : X) × (p x ≡ true) × Found x xs
found_with p [] e = absurd (false≢true e)
found_with p (x ∷ xs) e = elim (or_cases (p x) (list_any p xs) e) [
  | inl k ↦ (x, k, found_first x xs)
  | inr k ↦ let rest = found_with p xs k in (rest.0, rest.1, found_later rest.0 x xs rest.2)
]

all_refuse : {X : Type 0} (p : X → Bool) (xs : List X) → list_all p xs ≡ true → list_any (λ x. not (p x)) xs ≡ false
all_refuse p [] h = refl
all_refuse p (x ∷ xs) h =
    let k = and_parts (p x) (list_all p xs) h in
    ap (λ b. not b || list_any (λ y. not (p y)) xs) k.0 ∙ all_refuse p xs k.1

-- what all items pass, an item of the list passes
pub found_passes : {X : Type 0} (p : X → Bool) (xs : List X) (x : X) → list_all p xs ≡ true → Found x xs → p x ≡ true
found_passes p xs x h f = elim (cases_Bool (p x)) [
  | inl k ↦ k
  | inr k ↦ absurd (false≢true (sym (all_refuse p xs h) ∙ f (λ y. not (p y)) (ap not k)))
]
