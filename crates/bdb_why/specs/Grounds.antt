-- What decides whether a path's world has a signed tuple. It is looked for from the path itself down to the empty path.
use Rattle.std.specs.Prelude.{ℕ, ◌+◌, Bool, true, false, List, [], ◌∷◌, Option, None, Some}
use Rattle.bdb_base.specs.declared.kinds.Sign.{Sign}
use Rattle.bdb_base.specs.declared.kinds.Stmt.{Stmt}
use Rattle.bdb_base.specs.declared.tuple.Tuple.{Tuple}
use Rattle.bdb_base.specs.Worlds.{explicit, least_clash}
use Rattle.bdb_why.specs.declared.kinds.Ground.{Ground}
use Rattle.bdb_why.specs.declared.kinds.Ground.TheVariants.{Found, Blocked, Nowhere}

-- What decides at a level: that the signed tuple is explicit there, or else a statement with which it clashes. Where
-- neither does, the rest of the path decides.
abbrev pub ground_by : Bool → Option Stmt → ℕ → Ground → Ground
ground_by true x level rest = Found level
ground_by false (Some x) level rest = Blocked level x
ground_by false None level rest = rest

-- the ground of a signed tuple at a path that is at a level of another
abbrev pub ground_from : (ℕ → ℕ) → List Stmt → ℕ → List ℕ → Tuple → Sign → Ground
ground_from keys stmts level [] t s = ground_by (explicit stmts [] t s) (least_clash keys stmts [] t s) level Nowhere
ground_from keys stmts level (i ∷ w) t s = ground_by (explicit stmts (i ∷ w) t s) (least_clash keys stmts (i ∷ w) t s) level
    (ground_from keys stmts (level + 1) w t s)

-- the ground of a signed tuple at a path
abbrev pub ground_of : (ℕ → ℕ) → List Stmt → List ℕ → Tuple → Sign → Ground
ground_of keys stmts w t s = ground_from keys stmts 0 w t s

-- the signed tuple is stated at the ground's level
abbrev pub is_found : Ground → Bool
is_found (Found level) = true
is_found (Blocked level x) = false
is_found Nowhere = false
