-- The rows that the worlds have, one tuple at a time: a sign, and whether it is explicit.
use Rattle.std.specs.Prelude.{ℕ, Bool, List, Option, Some, None, cond}
use Rattle.bdb_base.specs.declared.kinds.Sign.{Sign}
use Rattle.bdb_base.specs.declared.kinds.Sign.TheVariants.{Plus, Minus}
use Rattle.bdb_base.specs.declared.kinds.Stmt.{Stmt}
use Rattle.bdb_base.specs.declared.tuple.Tuple.{Tuple}
use Rattle.bdb_base.specs.Worlds.{explicit, stated}

-- a sign, and whether it is explicit
abbrev pub Mark : Type 0
Mark = Sign × Bool

-- plus where the first test holds, else minus where the second does
abbrev pub sign_by : Bool → Bool → Option Sign
sign_by plus minus = cond plus (Some Plus) (cond minus (Some Minus) None)

-- the sign that the world of a path gives a tuple
abbrev pub sign_in : (ℕ → ℕ) → List Stmt → List ℕ → Tuple → Option Sign
sign_in keys stmts w t = sign_by (stated keys stmts w t Plus) (stated keys stmts w t Minus)

-- the sign with which a tuple is stated at this very path
abbrev pub explicit_sign : List Stmt → List ℕ → Tuple → Option Sign
explicit_sign stmts w t = sign_by (explicit stmts w t Plus) (explicit stmts w t Minus)

-- a sign, if there is one, with its mark
abbrev pub marked : (Sign → Bool) → Option Sign → Option Mark
marked f None = None
marked f (Some s) = Some (s, f s)

-- the row of a tuple in the world of a path: explicit where it is a statement of this very path
abbrev pub mark_of : (ℕ → ℕ) → List Stmt → List ℕ → Tuple → Option Mark
mark_of keys stmts w t = marked (explicit stmts w t) (sign_in keys stmts w t)

-- the sign of a row
abbrev pub sign_of : Option Mark → Option Sign
sign_of None = None
sign_of (Some m) = Some m.0

-- the sign of an explicit row
abbrev pub explicit_of : Option Mark → Option Sign
explicit_of None = None
explicit_of (Some m) = cond m.1 (Some m.0) None
