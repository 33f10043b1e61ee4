-- Lists that may be too long.
use Rattle.std.specs.Prelude.{ℕ, nat_le, List, length, Option, Some, None, cond}

-- a list of at most so many items; none where it has more
abbrev pub up_to : {X : Type 0} → ℕ → List X → Option (List X)
up_to most xs = cond (nat_le (length xs) most) (Some xs) None
