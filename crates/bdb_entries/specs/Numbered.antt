-- Rows by numbers that run from one number on.
use Rattle.std.specs.Prelude.{ℕ, suc, Bool, true, ◌&&◌, nat_eq, List, [], ◌∷◌, Option, Some, None, cond}

module _ {X : Type 0} where
  -- the numbers of rows run from a number on
  abbrev pub are_numbered : ℕ → List (ℕ × X) → Bool
  are_numbered n [] = true
  are_numbered n (e ∷ es) = nat_eq e.0 n && are_numbered (suc n) es

  -- items with the numbers from a number on
  abbrev pub numbered : ℕ → List X → List (ℕ × X)
  numbered n [] = []
  numbered n (x ∷ xs) = (n, x) ∷ numbered (suc n) xs

  -- the item of a number, where they are numbered from a number on
  abbrev pub item_at : ℕ → List X → ℕ → Option X
  item_at n [] k = None
  item_at n (x ∷ xs) k = cond (nat_eq k n) (Some x) (item_at (suc n) xs k)
