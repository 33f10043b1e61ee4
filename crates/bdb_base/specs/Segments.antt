-- Beginnings and ends of paths.
use Rattle.std.specs.Prelude.{ℕ, Bool, true, false, ◌&&◌, ◌||◌, nat_eq, List, [], ◌∷◌}
use Rattle.bdb_base.specs.Same.{same_path}

-- a path is a beginning of another
abbrev pub is_prefix : List ℕ → List ℕ → Bool
is_prefix [] p = true
is_prefix (i ∷ w) [] = false
is_prefix (i ∷ w) (j ∷ p) = nat_eq i j && is_prefix w p

-- a path is an end of another
abbrev pub is_suffix : List ℕ → List ℕ → Bool
is_suffix v [] = same_path v []
is_suffix v (j ∷ p) = same_path v (j ∷ p) || is_suffix v p
