use Rattle.bdb_tables.proofs.GapLemmas.{AreTried}
use Rattle.bdb_tables.proofs.Loops.{IsReading}
use Rattle.bdb_tables.proofs.gaps.first_gap.Given as goal

abbrev pub invariant-loop-number : goal.invariant-loop-number
invariant-loop-number g l = IsReading (g.K.Keeper.seen l.fn.keeper) (g.K.Keeper.seen l.keeper)
    (AreTried (g.K.Keeper.seen l.fn.keeper).kept l.tab l.low l.number (g.K.Keeper.seen l.fn.keeper).reads (g.K.Keeper.seen l.keeper).reads)
