use Rattle.std.proofs.Common.{◌+◌, ◌≤◌, length, take, filter}
use Rattle.bdb_tables.proofs.Loops.{IsReading}
use Rattle.bdb_catalog.specs.Taking.{is_said, AreTuplesOf}
use Rattle.bdb_catalog.proofs.taking.tuples_under.Given as goal

abbrev pub invariant-loop-row : goal.invariant-loop-row
invariant-loop-row g l = IsReading (g.K.Keeper.seen l.fn.keeper) (g.K.Keeper.seen l.keeper) (record {
  told : AreTuplesOf (g.K.Keeper.seen l.fn.keeper).kept (filter (is_said l.sign) (take l.row-index l.row-items)) l.tuples.items;
  reads : (g.K.Keeper.seen l.keeper).reads ≤ (g.K.Keeper.seen l.fn.keeper).reads + (length l.row-items + length l.tuples.items + 1);
})
