use Rattle.std.proofs.Common.{take, ◌≤◌, ◌+◌, ◌*◌}
use Rattle.bdb_tables.proofs.Loops.{IsReading}
use Rattle.bdb_stored.specs.Worlds.{TellsChildren}
use Rattle.bdb_stored.proofs.worlds.children_of.Given as goal

abbrev pub invariant-loop-uid : goal.invariant-loop-uid
invariant-loop-uid g l = IsReading (g.K.Keeper.seen l.fn.keeper) (g.K.Keeper.seen l.keeper) (record {
  told : TellsChildren (g.K.Keeper.seen l.fn.keeper).kept l.world (take l.uid-index l.users) l.children.items;
  reads : (g.K.Keeper.seen l.keeper).reads ≤ (g.K.Keeper.seen l.fn.keeper).reads + 2 * l.uid-index;
})
