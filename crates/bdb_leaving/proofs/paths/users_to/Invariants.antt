use Rattle.std.proofs.Common.{◌≤◌, ◌+◌, length}
use Rattle.bdb_tables.proofs.Loops.{IsReading}
use Rattle.bdb_leaving.proofs.EdgeLemmas.{EndsIn}
use Rattle.bdb_leaving.proofs.paths.users_to.Given as goal

abbrev pub invariant-loop-left : goal.invariant-loop-left
invariant-loop-left g l = IsReading (g.K.Keeper.seen l.fn.keeper) (g.K.Keeper.seen l.keeper) (record {
  ends : EndsIn (g.K.Keeper.seen l.fn.keeper).kept l.row.0 l.users.items l.at l.left;
  reads : (g.K.Keeper.seen l.keeper).reads ≤ (g.K.Keeper.seen l.fn.keeper).reads + length l.users.items;
})

abbrev pub decreases-loop-left : goal.decreases-loop-left
decreases-loop-left g l = l.left
