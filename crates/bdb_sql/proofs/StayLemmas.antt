-- A connection that stays as it was opened.
use Rattle.std.proofs.Common.{◌≡◌, inl, inr, Option, Some, None, sym, ◌∙◌, arith}
use Rattle.std.specs.Prelude.{IfSome}
use Rattle.sqlite_trees.specs.declared.store.Store.{Ghosts}
use Rattle.sqlite.specs.State.{State, HasCleanDisk, Opens, Survives}
use Rattle.sqlite.specs.Held.{Held, state}
use Rattle.bdb_sql.specs.Kept.{no_schema}
use Rattle.bdb_sql.specs.Stays.{StaysAs}
use Rattle.bdb_sql.specs.Tied.{StandsWhole}

opens_still : (old new : State) → StaysAs old new → Opens old → Opens new
opens_still old new same was = record {
  is_open = same.open_is ∙ was.is_open;
  clean = same.now_is ∙ was.clean ∙ sym same.committed_is;
  autocommit = same.mode ∙ was.autocommit;
  unmarked = same.marks_are ∙ was.unmarked;
  uncounted = (same.changes_are ∙ was.uncounted.0, same.rowid_is ∙ was.uncounted.1);
}

-- the connection that is handed on, if there is one, is as one that was just opened
module _ {S : Type 0} (g : Ghosts S) (old : Held S) where
  pub opens_there : (o : Option (Held S)) → (HasCleanDisk (state g old) → Opens (state g old)) → IfSome o (λ c. HasCleanDisk (state g c) → StaysAs (state g old) (state g c))
      → IfSome o (λ c. Survives (state g old) (state g c) (λ _. ⊥)) → IfSome o (λ c. HasCleanDisk (state g c) → Opens (state g c))
  opens_there None opened same kept = tt
  opens_there (Some c) opened same kept = λ clean. opens_still (state g old) (state g c) (same clean) (opened (omega (arith, kept.clean)))

-- an open connection over which there is nothing is whole
pub fresh_whole : {S : Type 0} (g : Ghosts S) (o : Option (Held S)) → IfSome o (λ c. HasCleanDisk (state g c) → Opens (state g c)) → IfSome o (λ c. c.schema ≡ no_schema) → StandsWhole g o
fresh_whole g None opens bare = tt
fresh_whole g (Some c) opens bare = λ clean. inr ((opens clean).is_open, inl bare)
