-- Whether tables tell a tuple: whether some world has an explicit row of it.
use Rattle.std.specs.Prelude.{◌≡◌, ℕ, Bool, List, Some}
use Rattle.bdb_base.specs.Bases.{Contents, key_lengths}
use Rattle.bdb_base.specs.Worlds.{IsConsistent}
use Rattle.bdb_base.specs.declared.kinds.Stmt.{Stmt}
use Rattle.bdb_base.specs.declared.tuple.Tuple.{Tuple}
use Rattle.bdb_keep.specs.Tables.{Tables}
use Rattle.bdb_tables.specs.Names.{Names}
use Rattle.bdb_tables.specs.Rows.{Tuples}
use Rattle.bdb_update.specs.Differing.{AreWithin, has_told}
use Rattle.bdb_tables.specs.Stored.{StoredOver}

-- whichever base the tables store, whatever worlds and numbers of tuples there are besides its own, this tells of the tuple of a
-- number whether a statement of the base has it
abbrev pub TellsTold : Tables → ℕ → Bool → Type 0
TellsTold t tid is = (reached told : List Stmt) (ns : Names) (ts : Tuples) (b : Contents) → StoredOver reached told ns ts t b → AreWithin b.stmts reached told
    → IsConsistent (key_lengths b.catalog.rels) b.stmts → (u : Tuple) → ts.tuple tid ≡ Some u → is ≡ has_told b.stmts u
