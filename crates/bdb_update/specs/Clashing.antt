-- The first statement of a path that clashes with another, told by its neighbours: statements in order have those of one path,
-- relation and key side by side, and of two that clash the first is plus.
use Rattle.std.specs.Prelude.{ℕ, Bool, false, ◌&&◌, ◌||◌, List, [], ◌∷◌, Option, Some, None, cond}
use Rattle.bdb_base.specs.Clash.{clash, same_key}
use Rattle.bdb_base.specs.Same.{same_path, same_sign}
use Rattle.bdb_base.specs.declared.kinds.Sign.TheVariants.{Plus}
use Rattle.bdb_base.specs.declared.kinds.Stmt.{Stmt}

-- a statement is one of this very path, of the relation and key of another
abbrev pub is_beside : (ℕ → ℕ) → List ℕ → Stmt → Stmt → Bool
is_beside keys w x y = same_path y.path w && same_key keys x.tuple y.tuple

-- a statement clashes with one of these, before the first that is not near it
abbrev pub clashes_near : (ℕ → ℕ) → List ℕ → Stmt → List Stmt → Bool
clashes_near keys w x [] = false
clashes_near keys w x (y ∷ ys) = is_beside keys w x y && (clash keys x.tuple x.sign y.tuple y.sign || clashes_near keys w x ys)

-- a statement is one of this very path, plus, and clashes with one of those that follow it, before the first that is not near it
abbrev pub clashes_ahead : (ℕ → ℕ) → List ℕ → Stmt → List Stmt → Bool
clashes_ahead keys w x xs = same_path x.path w && (same_sign x.sign Plus && clashes_near keys w x xs)

-- the first statement that clashes with one ahead
abbrev pub first_ahead : (ℕ → ℕ) → List Stmt → List ℕ → Option Stmt
first_ahead keys [] w = None
first_ahead keys (x ∷ xs) w = cond (clashes_ahead keys w x xs) (Some x) (first_ahead keys xs w)
