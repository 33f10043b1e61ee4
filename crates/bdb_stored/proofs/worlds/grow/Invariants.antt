use Rattle.std.proofs.Common.{◌≤◌, ◌+◌, ◌*◌, length}
use Rattle.bdb_tables.proofs.Loops.{IsReading}
use Rattle.bdb_stored.proofs.GrowLemmas.{HaveGrown}
use Rattle.bdb_stored.proofs.worlds.grow.Given as goal

abbrev pub invariant-loop-at : goal.invariant-loop-at
invariant-loop-at g l = IsReading (g.K.Keeper.seen l.fn.keeper) (g.K.Keeper.seen l.keeper) (record {
  told : HaveGrown (g.K.Keeper.seen l.fn.keeper).kept l.at l.worlds.items;
  reads : (g.K.Keeper.seen l.keeper).reads ≤ (g.K.Keeper.seen l.fn.keeper).reads + l.at * (2 * length l.users);
})
