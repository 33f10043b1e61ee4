use Rattle.std.proofs.Common.{take, ◌≤◌, ◌+◌}
use Rattle.bdb_tables.proofs.Loops.{IsReading}
use Rattle.bdb_stored.specs.Structure.{TellsEdges}
use Rattle.bdb_stored.proofs.edges.edges_from.Given as goal

abbrev pub invariant-loop-uid : goal.invariant-loop-uid
invariant-loop-uid g l = IsReading (g.K.Keeper.seen l.fn.keeper) (g.K.Keeper.seen l.keeper) (record {
  told : TellsEdges (g.K.Keeper.seen l.fn.keeper).kept l.worlds l.world l.from (take l.uid-index l.users) l.edges.items;
  reads : (g.K.Keeper.seen l.keeper).reads ≤ (g.K.Keeper.seen l.fn.keeper).reads + l.uid-index;
})
