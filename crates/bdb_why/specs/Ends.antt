-- The ends of a path that are states, and the statements there of a tuple's relation and key.
use Rattle.std.specs.Prelude.{ℕ, Bool, ◌&&◌, List, [], ◌∷◌, filter, Option, None, Some}
use Rattle.bdb_base.specs.declared.kinds.Stmt.{Stmt}
use Rattle.bdb_base.specs.declared.tuple.Tuple.{Tuple}
use Rattle.bdb_base.specs.Clash.{same_key}
use Rattle.bdb_base.specs.Same.{same_path}
use Rattle.bdb_base.specs.Segments.{is_suffix}

-- the ends of a path, from the path itself to the empty one
abbrev pub ends : List ℕ → List (List ℕ)
ends [] = [] ∷ []
ends (i ∷ w) = (i ∷ w) ∷ ends w

-- the ends of a path that are in a set, the longest first
abbrev pub ends_in : (List ℕ → Bool) → List ℕ → List (List ℕ)
ends_in P w = filter P (ends w)

-- the ends in a set of a path to which a link leads, if one does
abbrev pub ends_behind : (List ℕ → Bool) → Option (List ℕ) → List (List ℕ)
ends_behind P None = []
ends_behind P (Some v) = ends_in P v

-- a statement at an end of the path has the tuple's relation and key
abbrev pub is_at_an_end : (ℕ → ℕ) → List ℕ → Tuple → Stmt → Bool
is_at_an_end keys w t x = is_suffix x.path w && same_key keys t x.tuple

-- the statements of this very path that have the tuple's relation and key
abbrev pub near_at : (ℕ → ℕ) → List Stmt → Tuple → List ℕ → List Stmt
near_at keys stmts t v = filter (λ x. same_path x.path v && same_key keys t x.tuple) stmts
