-- Paths of a set as a tree: those that are one user deeper than others.
use Rattle.std.specs.Prelude.{ℕ, Bool, List, [], ◌∷◌, ◌++◌, Option, Some, None, cond}
use Rattle.std.specs.List.{flat_map}
use Rattle.bdb_stored.specs.Items.{items_of}

-- a path with a user at its end, if it is in the set
abbrev pub child_of : (List ℕ → Bool) → List ℕ → ℕ → Option (List ℕ)
child_of P w i = cond (P (w ++ i ∷ [])) (Some (w ++ i ∷ [])) None

-- the paths of the set that are one user deeper than a path, by user
abbrev pub children_of : (List ℕ → Bool) → List ℕ → List ℕ → List (List ℕ)
children_of P users w = items_of (child_of P w) users

-- the empty path, and the children of some paths, those of each behind those of the one before
abbrev pub grown_from : (List ℕ → Bool) → List ℕ → List (List ℕ) → List (List ℕ)
grown_from P users ws = [] ∷ flat_map (children_of P users) ws
