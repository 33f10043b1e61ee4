-- Worlds as they are read: their rows with the marks, by tuple.
use Rattle.std.specs.Prelude.{◌≡◌, ℕ, Bool, List, Some, map}
use Rattle.std.specs.List.Sorted.{IsPermutation, IsSortedBy}
use Rattle.std.specs.Ordering.{is_lt}
use Rattle.bdb_base.specs.declared.kinds.Held.{Held}
use Rattle.bdb_base.specs.declared.kinds.Stmt.{Stmt}
use Rattle.bdb_base.specs.WorldRows.{row_tuple_cmp, world_of}
use Rattle.bdb_base.specs.Worlds.{IsConsistent}
use Rattle.bdb_keep.specs.Tables.{Tables}
use Rattle.bdb_tables.specs.Names.{Names, AreNames, path_of}
use Rattle.bdb_tables.specs.Rows.{AreKeyLengths, Tuples, HoldsTuples, HoldsRows}
use Rattle.bdb_val.specs.declared.stored.StoredRow.{StoredRow}

-- a stored row as one of a world
abbrev pub held_row : StoredRow → Held
held_row x = record { tuple = x.tuple; sign = x.mark.0; explicit = x.mark.1 }

-- the tuple of a row comes before that of another
abbrev pub tuple_is_before : Held → Held → Bool
tuple_is_before a b = is_lt (row_tuple_cmp a b)

-- these are the rows of a world, and none comes before the one in front of it
pub record AreInTupleOrder (rows : List StoredRow) (held : List Held) : Type 0 where
  pub moved : IsPermutation (map held_row rows) held
  pub sorted : IsSortedBy tuple_is_before held

-- whichever statements they are whose rows the tables hold, and whichever lengths keys have, these are the rows of the world of the path that the number names
abbrev pub AreRowsAt : Tables → ℕ → List Held → Type 0
AreRowsAt t wid held = (keys : ℕ → ℕ) (stmts : List Stmt) (ns : Names) (ts : Tuples) (w : List ℕ) → AreKeyLengths keys → IsConsistent keys stmts → AreNames ns
    → HoldsTuples stmts ts t → HoldsRows keys stmts (path_of ns) ts.tuple t → path_of ns wid ≡ Some w → held ≡ world_of keys stmts w
