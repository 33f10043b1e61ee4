use Rattle.std.proofs.Common.{◌+◌, ◌≤◌, length, take}
use Rattle.std.specs.List.{AllZip}
use Rattle.bdb_shown.specs.Rows.{HasTupleFor}
use Rattle.bdb_tables.proofs.Loops.{IsReading}
use Rattle.bdb_shown.proofs.reading.fill_rows.Given as goal

abbrev pub invariant-loop-index : goal.invariant-loop-index
invariant-loop-index g l = IsReading (g.K.Keeper.seen l.fn.keeper) (g.K.Keeper.seen l.keeper) (record {
  told : AllZip (HasTupleFor (g.K.Keeper.seen l.fn.keeper).kept) (take l.index l.stored) l.rows;
  reads : (g.K.Keeper.seen l.keeper).reads ≤ (g.K.Keeper.seen l.fn.keeper).reads + length l.rows;
})
