use Rattle.bdb_keep.specs.Seen.{GoesOn, NeverFall}
use Rattle.bdb_update.specs.Calls.{StoresSized}
use Rattle.bdb_stored.specs.Writing.{with_front}
use Rattle.bdb_stored.proofs.writing.write_statements.Given as goal

abbrev pub invariant-loop-stmt : goal.invariant-loop-stmt
invariant-loop-stmt g l = record {
  stored : StoresSized (g.K.Keeper.seen l.keeper).kept l.counts (with_front l.base l.stmt-index);
  counts : NeverFall (g.K.Keeper.seen l.fn.keeper) (g.K.Keeper.seen l.keeper);
  goes_on : GoesOn (g.K.Keeper.seen l.fn.keeper) (g.K.Keeper.seen l.keeper);
}
