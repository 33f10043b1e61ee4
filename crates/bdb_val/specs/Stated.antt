-- What holds where the explicit rows of tables are statements.
use Rattle.std.specs.Prelude.{ℕ, List, Option}
use Rattle.bdb_base.specs.declared.kinds.Stmt.{Stmt}
use Rattle.bdb_base.specs.declared.tuple.Tuple.{Tuple}
use Rattle.bdb_keep.specs.Tables.{Tables}
use Rattle.bdb_tables.specs.InUse.{ValKey}
use Rattle.bdb_tables.specs.Marks.{Mark}
use Rattle.bdb_val.specs.Middle.{HasExplicit}
use Rattle.bdb_val.specs.Settled.{LinkedWorlds}

-- something holds, whichever statements the explicit rows of tables are, and whichever lengths keys have
abbrev pub WhereStated : Tables → ((ℕ → ℕ) → Type 0) → Type 0
WhereStated t P = (keys : ℕ → ℕ) (stmts : List Stmt) (n : LinkedWorlds) (tuple : ℕ → Option Tuple) (f : ValKey → Option Mark) → HasExplicit keys stmts n tuple f t → P keys
