-- Finite sets as lists in strict order.
use Rattle.std.specs.Prelude.{◌≡◌, ℕ, ◌≤◌, Bool, true, not, ◌&&◌, List, [], ◌∷◌, length, take, drop, filter}
use Rattle.std.specs.declared.cmp.Ordering.{Ordering}
use Rattle.std.specs.declared.cmp.Ordering.TheVariants.{Less, Equal, Greater}
use Rattle.std.specs.Ordering.{is_eq, is_lt}
use Rattle.std.specs.Cmp.{IsTotalOrder}
use Rattle.std.specs.List.{list_any, list_all}

-- an order is total, and answers Equal only where two things are equal
pub record IsExactOrder {X : Type 0} (R : X → X → Ordering) : Type 0 where
  pub total : IsTotalOrder R
  pub exact : (x y : X) → R x y ≡ Equal → x ≡ y

-- an item is in the set
abbrev pub is_member : {X : Type 0} → (X → X → Ordering) → List X → X → Bool
is_member R xs x = list_any (λ y. is_eq (R y x)) xs

-- each item is below all later ones
abbrev pub ascending : {X : Type 0} → (X → X → Ordering) → List X → Bool
ascending R [] = true
ascending R (x ∷ xs) = list_all (λ y. is_lt (R x y)) xs && ascending R xs

-- an item among a first one and the rest, by how the first one compares with it
abbrev pub put_at : {X : Type 0} → Ordering → X → List X → X → List X → List X
put_at Less y ys x rest = y ∷ rest
put_at Equal y ys x rest = y ∷ ys
put_at Greater y ys x rest = x ∷ y ∷ ys

-- the set with an item
abbrev pub put_in : {X : Type 0} → (X → X → Ordering) → List X → X → List X
put_in R [] x = x ∷ []
put_in R (y ∷ ys) x = put_at (R y x) y ys x (put_in R ys x)

-- the set without an item
abbrev pub taken_out : {X : Type 0} → (X → X → Ordering) → List X → X → List X
taken_out R xs x = filter (λ y. not (is_eq (R y x))) xs

-- the set of a list's items
abbrev pub sorted_set : {X : Type 0} → (X → X → Ordering) → List X → List X
sorted_set R [] = []
sorted_set R (x ∷ xs) = put_in R (sorted_set R xs) x

-- a set with each item of a list put in, the first one first
abbrev pub put_all : {X : Type 0} → (X → X → Ordering) → List X → List X → List X
put_all R xs [] = xs
put_all R xs (y ∷ ys) = put_all R (put_in R xs y) ys

-- all items before a place are below an item, and all from there on are above it
pub record BelongsAt {X : Type 0} (R : X → X → Ordering) (xs : List X) (x : X) (at : ℕ) : Type 0 where
  pub within : at ≤ length xs
  pub below : list_all (λ y. is_lt (R y x)) (take at xs) ≡ true
  pub above : list_all (λ y. is_lt (R x y)) (drop at xs) ≡ true
