-- What numbers stand for, in the order of the numbers.
use Rattle.std.specs.Prelude.{ℕ, List, [], ◌∷◌, Option, Some, None}

-- an item, if there is one, in front of others
abbrev pub with_item : {X : Type 0} → Option X → List X → List X
with_item None xs = xs
with_item (Some x) xs = x ∷ xs

-- the items that numbers stand for
abbrev pub items_of : {X : Type 0} → (ℕ → Option X) → List ℕ → List X
items_of name [] = []
items_of name (k ∷ ks) = with_item (name k) (items_of name ks)
