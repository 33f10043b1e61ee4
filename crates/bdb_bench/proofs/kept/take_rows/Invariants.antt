use Rattle.bdb_keep.specs.Seen.{GoesOn}
use Rattle.bdb_bench.proofs.kept.take_rows.Given as goal

abbrev pub invariant-loop-number : goal.invariant-loop-number
invariant-loop-number g l = GoesOn (g.K.Keeper.seen l.fn.keeper) (g.K.Keeper.seen l.keeper)
