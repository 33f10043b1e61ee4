-- The changes that commands make, as the history notes them.
use Rattle.std.specs.Prelude.{◌≡◌, true, Option, Some, None, List, [], ◌∷◌, ◌++◌, if◌then◌else◌}
use Rattle.std.specs.List.{list_all}
use Rattle.bdb_base.specs.Bases.{Contents, belongs}
use Rattle.bdb_base.specs.Order.{statement_cmp}
use Rattle.bdb_base.specs.SortedSet.{sorted_set}
use Rattle.bdb_base.specs.declared.kinds.Stmt.{Stmt}
use Rattle.bdb_canon.specs.declared.sizes.Counts.{Counts}
use Rattle.bdb_keep.specs.Tables.{Tables}
use Rattle.bdb_undo.specs.Changes.{alters, missing_from}
use Rattle.bdb_undo.specs.declared.change.Change.{Change}
use Rattle.bdb_undo.specs.declared.change.Named.TheVariants.{Nothing}
use Rattle.bdb_update.specs.Calls.{MayMeet, StoresSized}

-- a change, where it alters something
abbrev pub made_of : Change → Option Change
made_of c = if alters c then Some c else None

-- tables store a valid base of these sizes, to whose catalog statements belong
pub record MayMeetEach (t : Tables) (counts : Counts) (xs : List Stmt) (b : Contents) : Type 0 where
  pub base : StoresSized t counts b
  pub belong : list_all (belongs b.catalog) xs ≡ true

-- there is such a base
pub record SomeMayMeetEach (t : Tables) (counts : Counts) (xs : List Stmt) : Type 0 where
  pub base : Contents
  pub may : MayMeetEach t counts xs base

-- whichever base the tables store, a statement was pushed unless it stands there
abbrev pub PushesNew : Tables → Counts → Stmt → List Stmt → List Stmt → Type 0
PushesNew t counts x old new = (b : Contents) → MayMeet t counts x b → new ≡ old ++ missing_from b.stmts (x ∷ [])

-- whichever base the tables store, these are the statements that do not stand there
abbrev pub AreNew : Tables → Counts → List Stmt → List Stmt → Type 0
AreNew t counts xs new = (b : Contents) → MayMeetEach t counts xs b → new ≡ missing_from b.stmts xs

-- whichever base the tables store, this is the change where statements are put in place of others
abbrev pub Replaces : Tables → Counts → List Stmt → List Stmt → Option Change → Type 0
Replaces t counts gone come c = (b : Contents) → MayMeetEach t counts come b
    → c ≡ made_of (record { named = Nothing; gone = missing_from (sorted_set statement_cmp come) gone; come = missing_from b.stmts (sorted_set statement_cmp come) })
