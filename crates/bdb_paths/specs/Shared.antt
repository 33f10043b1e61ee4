-- How far a path goes along with others.
use Rattle.std.specs.Prelude.{ℕ, ◌+◌, max, nat_eq, List, [], ◌∷◌, cond}
use Rattle.bdb_base.specs.declared.kinds.Stmt.{Stmt}

-- how many users two paths share at their beginnings
abbrev pub shared_length : List ℕ → List ℕ → ℕ
shared_length [] p = 0
shared_length (i ∷ w) [] = 0
shared_length (i ∷ w) (j ∷ p) = cond (nat_eq i j) (1 + shared_length w p) 0

-- how many users of a path are those of the longest prefix that is a state
abbrev pub stated_length : List Stmt → List ℕ → ℕ
stated_length [] w = 0
stated_length (x ∷ xs) w = max (shared_length w x.path) (stated_length xs w)
