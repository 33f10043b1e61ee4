-- What the steps of a commit make of the file, inside its transaction.
use Rattle.std.specs.Prelude.{◌≡◌, ℕ, true, List, Option, IsTrue}
use Rattle.sqlite_trees.specs.declared.store.Store.{Ghosts}
use Rattle.sqlite.specs.Held.{Held, state}
use Rattle.sqlite.specs.State.{State, HasCleanDisk, Shows, Survives}
use Rattle.bdb_memory.specs.StoreContents.{written}
use Rattle.bdb_keep.specs.Tables.{Tables, set_at}
use Rattle.bdb_sql.specs.Rows.{StoresTables, TreesHave}
use Rattle.bdb_sql.specs.Tied.{HoldsTable}

-- the table is there, with the rows that the file had
pub record HasTable (old new : State) : Type 0 where
  pub table : HoldsTable new
  pub rows : (t : Tables) → StoresTables old.now t → TreesHave new.now.trees t
  pub committed : new.committed ≡ old.committed
  pub mode : new.in_transaction ≡ true

-- one place is set to this row, or to none, and nothing is committed
pub record SetsPlace (place : List ℕ) (row : Option (List ℕ)) (old new : State) : Type 0 where
  pub table : HoldsTable new
  pub rows : (t : Tables) → TreesHave old.now.trees t → TreesHave new.now.trees (set_at t place row)
  pub shows : Shows old new new.now old.committed true

-- these places are set, each to the row that `now` has there, and nothing is committed
pub record SetsPlaces (places : List (List ℕ)) (now : Tables) (old new : State) : Type 0 where
  pub table : HoldsTable new
  pub rows : (t : Tables) → TreesHave old.now.trees t → TreesHave new.now.trees (written places now t)
  pub committed : new.committed ≡ old.committed
  pub mode : new.in_transaction ≡ true

-- where the file had the rows of the one tables, it now has those of the others, and nothing is committed
pub record Turns (last kept : Tables) (old new : State) : Type 0 where
  pub table : HoldsTable new
  pub rows : StoresTables old.now last → TreesHave new.now.trees kept
  pub committed : new.committed ≡ old.committed
  pub mode : new.in_transaction ≡ true

module _ {S : Type 0} (g : Ghosts S) (old new : Held S) where
  -- what a call does while a transaction runs, where the disk is clean to its end
  abbrev pub Inside : (State → State → Type 0) → Type 0
  Inside Does = HasCleanDisk (state g new) → IsTrue (state g old).in_transaction → Does (state g old) (state g new)

  -- a crash leaves nothing that it could not leave before
  abbrev pub CommitsNothing : Type 0
  CommitsNothing = Survives (state g old) (state g new) (λ _. ⊥)
