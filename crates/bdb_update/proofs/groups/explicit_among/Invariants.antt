use Rattle.std.proofs.Common.{take}
use Rattle.bdb_update.specs.Groups.{AreExplicitRows}
use Rattle.bdb_update.proofs.QuietLemmas.{IsLooking}
use Rattle.bdb_update.proofs.groups.explicit_among.Given as goal

abbrev pub invariant-loop-entry : goal.invariant-loop-entry
invariant-loop-entry g l = IsLooking (g.K.Keeper.seen l.fn.keeper) (g.K.Keeper.seen l.keeper)
    (AreExplicitRows (g.K.Keeper.seen l.fn.keeper).kept (take l.entry-index l.entries) l.rows.items)
