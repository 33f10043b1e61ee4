use Rattle.std.proofs.Common.{◌<◌, ◌≤◌, ◌+◌, ◌-◌, ◌*◌, ◌^◌, take}
use Rattle.bdb_tables.proofs.Loops.{IsReading}
use Rattle.bdb_stored.specs.Counting.{CountsRows}
use Rattle.bdb_stored.proofs.counting.count_rows.Given as goal

abbrev pub invariant-loop-world : goal.invariant-loop-world
invariant-loop-world g l = IsReading (g.K.Keeper.seen l.fn.keeper) (g.K.Keeper.seen l.keeper) (record {
  counts : CountsRows (g.K.Keeper.seen l.fn.keeper).kept (take l.world-index l.worlds) l.stmts l.rows;
  reads : l.rows < 2 ^ 64 - 1 → (g.K.Keeper.seen l.keeper).reads ≤ (g.K.Keeper.seen l.fn.keeper).reads + (l.world-index + 2 * l.rows);
})
