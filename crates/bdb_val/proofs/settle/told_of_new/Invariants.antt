use Rattle.std.proofs.Common.{[], take}
use Rattle.bdb_val.specs.GroupChanges.{mark_under, TellsMarks}
use Rattle.bdb_val.proofs.settle.told_of_new.Given as goal

abbrev pub invariant-loop-change : goal.invariant-loop-change
invariant-loop-change l = TellsMarks (mark_under []) (take l.change-index l.changes) l.settled
