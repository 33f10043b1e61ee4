use Rattle.std.proofs.Common.{◌≤◌, ◌+◌, take}
use Rattle.bdb_tables.proofs.Loops.{IsReading}
use Rattle.bdb_leaving.specs.Paths.{HavePaths, path_lengths}
use Rattle.bdb_leaving.proofs.paths.with_paths.Given as goal

abbrev pub invariant-loop-row : goal.invariant-loop-row
invariant-loop-row g l = IsReading (g.K.Keeper.seen l.fn.keeper) (g.K.Keeper.seen l.keeper) (record {
  have : HavePaths (g.K.Keeper.seen l.fn.keeper).kept (take l.row-index l.rows) l.worlds.items;
  reads : (g.K.Keeper.seen l.keeper).reads ≤ (g.K.Keeper.seen l.fn.keeper).reads + path_lengths l.worlds.items;
})
