use Rattle.std.proofs.Common.{◌≤◌, ◌+◌}
use Rattle.bdb_tables.proofs.Loops.{IsReading}
use Rattle.bdb_stored.proofs.LinkLemmas.{FirstLinks}
use Rattle.bdb_stored.proofs.links.worlds_with_links.Given as goal

abbrev pub invariant-loop-world : goal.invariant-loop-world
invariant-loop-world g l = IsReading (g.K.Keeper.seen l.fn.keeper) (g.K.Keeper.seen l.keeper) (record {
  told : FirstLinks l.world-index (g.K.Keeper.seen l.fn.keeper).kept l.linked;
  reads : (g.K.Keeper.seen l.keeper).reads ≤ (g.K.Keeper.seen l.fn.keeper).reads + l.world-index;
})
