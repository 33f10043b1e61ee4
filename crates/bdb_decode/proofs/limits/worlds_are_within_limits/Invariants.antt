use Rattle.bdb_tables.proofs.Loops.{IsReading}
use Rattle.bdb_decode.proofs.LimitLemmas.{AreShallowBelow}
use Rattle.bdb_decode.proofs.limits.worlds_are_within_limits.Given as goal

abbrev pub invariant-loop-many : goal.invariant-loop-many
invariant-loop-many g l = IsReading (g.K.Keeper.seen l.fn.keeper) (g.K.Keeper.seen l.keeper) (AreShallowBelow (g.K.Keeper.seen l.fn.keeper).kept l.low.items l.many)
