-- Belief paths: lists of users in which no two neighbours are equal.
use Rattle.std.specs.Prelude.{ℕ, Bool, true, not, ◌&&◌, nat_eq, List, [], ◌∷◌}

-- a list does not begin with this user
abbrev pub begins_otherwise : ℕ → List ℕ → Bool
begins_otherwise i [] = true
begins_otherwise i (j ∷ w) = not (nat_eq i j)

-- no two neighbours are equal
abbrev pub alternates : List ℕ → Bool
alternates [] = true
alternates (i ∷ w) = begins_otherwise i w && alternates w

-- the path without its first user
abbrev pub tail : List ℕ → List ℕ
tail [] = []
tail (i ∷ w) = w
