-- A connection through which the file has exactly some rows, also after a crash.
use Rattle.std.specs.Prelude.{◌≡◌, ◌⊎◌, true, false, Option, IsTrue, IfSome, IsSome}
use Rattle.sqlite_trees.specs.declared.store.Shape.TheVariants.{Table}
use Rattle.sqlite_trees.specs.declared.store.Store.{Ghosts}
use Rattle.sqlite_trees.specs.Tree.{Trees}
use Rattle.sqlite_trees.specs.View.{IsShaped}
use Rattle.sqlite_schema.specs.declared.schema.Schema.{Schema}
use Rattle.sqlite.specs.Effect.{IsDatabase}
use Rattle.sqlite.specs.Held.{Held, state}
use Rattle.sqlite.specs.State.{State, HasCleanDisk}
use Rattle.bdb_keep.specs.Tables.{Tables}
use Rattle.bdb_sql.specs.Filed.{Filed, works}
use Rattle.bdb_sql.specs.Kept.{kept_schema, no_schema}
use Rattle.bdb_sql.specs.Rows.{StoresTables}

-- the one table is there, its rows obey its rules and stand by rising numbers
pub record HoldsTable (s : State) : Type 0 where
  pub schema : s.now.schema ≡ kept_schema
  pub sound : IsDatabase s.now
  pub shaped : IsShaped Table (s.now.trees 0)

-- there is nothing at all, or the one table
abbrev pub IsReadyFile : State → Type 0
IsReadyFile s = (s.now.schema ≡ no_schema) ⊎ HoldsTable s

-- through this connection the file has exactly these rows, and a crash at this moment leaves them and no others
pub record IsTied (s : State) (t : Tables) : Type 0 where
  pub is_open : IsTrue s.is_open
  pub autocommit : s.in_transaction ≡ false
  pub settled : s.now ≡ s.committed
  pub sound : IsDatabase s.now
  pub ready : IsReadyFile s
  pub rows : StoresTables s.now t
  pub crash : (db : Trees) → s.may_leave db → db ≡ s.now.trees

-- what a crash left is a database with exactly these rows
abbrev pub LeavesRows : Trees → Tables → Type 0
LeavesRows db t = (schema : Schema) × IsDatabase (record { schema = schema; trees = db }) × StoresTables (record { schema = schema; trees = db }) t

-- a crash at this moment leaves the rows from before, or those after
abbrev pub LeavesEither : State → Tables → Tables → Type 0
LeavesEither s last kept = (db : Trees) → s.may_leave db → LeavesRows db last ⊎ LeavesRows db kept

module _ {S : Type 0} (g : Ghosts S) where
  -- the connection, if there is one, is tied to these rows, as long as its disk is clean
  abbrev pub StoresRows : Option (Held S) → Tables → Type 0
  StoresRows conn t = IfSome conn (λ c. HasCleanDisk (state g c) → IsTied (state g c) t)

  -- a crash leaves the rows from before, or those after, as long as the disk is clean
  abbrev pub MayStore : Option (Held S) → Tables → Tables → Type 0
  MayStore conn last kept = IfSome conn (λ c. HasCleanDisk (state g c) → LeavesEither (state g c) last kept)

  -- what a call makes of a connection that was tied to these rows, where the disk is clean to its end
  abbrev pub WhereTied : Held S → Held S → Tables → (State → Type 0) → Type 0
  WhereTied old new t Makes = HasCleanDisk (state g new) → IsTied (state g old) t → Makes (state g new)

  -- the store below isn't broken; or it is open, and there is nothing in it, or the rows of its first table stand by rising numbers
  abbrev pub IsWhole : Held S → Type 0
  IsWhole c = ((g.view c.store).is_broken ≡ false) ⊎ (IsTrue (g.view c.store).is_open × ((c.schema ≡ no_schema) ⊎ IsShaped Table ((g.view c.store).trees 0)))

  -- so it is of the connection, if there is one, as long as its disk is clean
  abbrev pub StandsWhole : Option (Held S) → Type 0
  StandsWhole conn = IfSome conn (λ c. HasCleanDisk (state g c) → IsWhole c)

  -- a keeper works, its file has exactly the rows last committed, and a crash at this moment leaves them and no others,
  -- as long as the disk is clean
  pub record MatchesFile (k : Filed S) : Type 0 where
    pub at_work : works k ≡ true
    pub file : IsSome k.conn
    pub rows : StoresRows k.conn k.seen.last
