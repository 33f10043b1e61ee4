-- How the first clashing statement is found: one pass that keeps the last plus statement of the path.
use Rattle.std.specs.Prelude.{ℕ, Bool, false, ◌&&◌, List, Option, None, Some, cond}
use Rattle.bdb_base.specs.declared.kinds.Sign.TheVariants.{Plus}
use Rattle.bdb_base.specs.declared.kinds.Stmt.{Stmt}
use Rattle.bdb_base.specs.Clash.{clash}
use Rattle.bdb_base.specs.Same.{same_path, same_sign}

-- a statement of this very path clashes with one that came before it, if one did
abbrev pub clashes_after : (ℕ → ℕ) → List ℕ → Option Stmt → Stmt → Bool
clashes_after keys w None x = false
clashes_after keys w (Some y) x = same_path x.path w && clash keys y.tuple y.sign x.tuple x.sign

-- the last plus statement of this very path, once a statement came
abbrev pub last_plus : List ℕ → Option Stmt → Stmt → Option Stmt
last_plus w last x = cond (same_path x.path w && same_sign x.sign Plus) (Some x) last
