use Rattle.std.proofs.Common.{◌≤◌, ◌+◌, ◌*◌, length}
use Rattle.bdb_tables.proofs.Loops.{IsReading}
use Rattle.bdb_stored.proofs.LinkLemmas.{FirstEdges}
use Rattle.bdb_stored.proofs.edges.edges_of.Given as goal

abbrev pub invariant-loop-at : goal.invariant-loop-at
invariant-loop-at g l = IsReading (g.K.Keeper.seen l.fn.keeper) (g.K.Keeper.seen l.keeper) (record {
  told : FirstEdges l.at (g.K.Keeper.seen l.fn.keeper).kept l.edges.items;
  reads : (g.K.Keeper.seen l.keeper).reads ≤ (g.K.Keeper.seen l.fn.keeper).reads + l.at * length l.users;
})
