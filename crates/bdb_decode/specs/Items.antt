-- Items in the order of their numbers.
use Rattle.std.specs.Prelude.{ℕ, List, Option}
use Rattle.std.specs.declared.cmp.Ordering.{Ordering}
use Rattle.std.specs.Ordering.{nat_cmp}
use Rattle.std.specs.FinMap.{find}

-- by number
abbrev pub number_cmp : {X : Type 0} → ℕ × X → ℕ × X → Ordering
number_cmp a b = nat_cmp a.0 b.0

-- the item of a number, if there is one
abbrev pub item_of : {X : Type 0} → List (ℕ × X) → ℕ → Option X
item_of items n = find nat_cmp n items
