-- What a database holds is one content.
use Rattle.std.specs.Prelude.{◌≡◌}
use Rattle.sqlite_trees.specs.Tree.{Trees}
use Rattle.sqlite.specs.Effect.{Database}
use Rattle.bdb_keep.specs.Tables.{LieInTables, Tables}
use Rattle.bdb_sql.specs.Rows.{StoresTables}
use Rattle.bdb_sql.specs.Tied.{LeavesRows}

-- a database has the rows of one choice of tables at most
abbrev pub HasOneContent : Type 0
HasOneContent = (db : Database) (t u : Tables) → LieInTables t → LieInTables u → StoresTables db t → StoresTables db u → t ≡ u

-- and so has what a crash left, whatever schema it is read by
abbrev pub LeavesOneContent : Type 0
LeavesOneContent = (db : Trees) (t u : Tables) → LieInTables t → LieInTables u → LeavesRows db t → LeavesRows db u → t ≡ u
