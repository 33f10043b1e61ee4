use Rattle.std.proofs.Common.{drop}
use Rattle.bdb_update.proofs.ElsewhereLemmas.{FreshSoFar}
use Rattle.bdb_update.proofs.QuietLemmas.{IsLooking}
use Rattle.bdb_update.proofs.elsewhere.fresh_of.Given as goal

abbrev pub invariant-loop-stmt : goal.invariant-loop-stmt
invariant-loop-stmt g l = IsLooking (g.K.Keeper.seen l.fn.keeper) (g.K.Keeper.seen l.keeper)
    (FreshSoFar (g.K.Keeper.seen l.fn.keeper).kept l.come (drop l.stmt-index l.come) l.fresh)
