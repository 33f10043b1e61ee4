use Rattle.std.proofs.Common.{◌≡◌, take, drop}
use Rattle.std.specs.List.{AllByRecursion}
use Rattle.bdb_base.specs.Causes.{Rises}
use Rattle.bdb_tables.specs.Grammar.{InGrammar}
use Rattle.bdb_tables.specs.Writes.{IsChange, with_changes}
use Rattle.bdb_tables.specs.GroupMarks.{marks_codec}
use Rattle.bdb_tables.proofs.Loops.{IsWriting}
use Rattle.bdb_tables.proofs.marks.change_marks.Given as goal

abbrev pub invariant-loop-change : goal.invariant-loop-change
invariant-loop-change g l = IsWriting (g.K.Keeper.seen l.fn.keeper) (g.K.Keeper.seen l.keeper) (record {
  left : with_changes (marks_codec l.fn.prefix.items) (g.K.Keeper.seen l.keeper).kept (drop l.change-index l.changes) ≡ with_changes (marks_codec l.fn.prefix.items) (g.K.Keeper.seen l.fn.keeper).kept l.changes;
  fits : AllByRecursion (IsChange (marks_codec l.fn.prefix.items)) (take l.change-index l.changes);
  prefix : l.prefix.items ≡ l.fn.prefix.items;
  grammar : InGrammar (g.K.Keeper.seen l.fn.keeper).kept → InGrammar (g.K.Keeper.seen l.keeper).kept;
  writes : Rises l.change-index (g.K.Keeper.seen l.fn.keeper).writes (g.K.Keeper.seen l.keeper).writes;
})
