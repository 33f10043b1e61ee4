use Rattle.std.proofs.Common.{drop}
use Rattle.bdb_update.proofs.ElsewhereLemmas.{LostSoFar}
use Rattle.bdb_update.proofs.QuietLemmas.{IsLooking}
use Rattle.bdb_update.proofs.elsewhere.lost_of.Given as goal

abbrev pub invariant-loop-stmt : goal.invariant-loop-stmt
invariant-loop-stmt g l = IsLooking (g.K.Keeper.seen l.fn.keeper) (g.K.Keeper.seen l.keeper)
    (LostSoFar (g.K.Keeper.seen l.fn.keeper).kept l.reached l.gone (drop l.stmt-index l.gone) l.lost)
