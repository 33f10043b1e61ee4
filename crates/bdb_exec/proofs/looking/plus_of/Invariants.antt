use Rattle.std.proofs.Common.{◌≡◌, ◌+◌, ◌≤◌, map, take}
use Rattle.bdb_tables.proofs.Loops.{IsReading}
use Rattle.bdb_plan.specs.Running.{plus_tuples}
use Rattle.bdb_exec.specs.Memos.{Recalls}
use Rattle.bdb_exec.specs.Rows.{signed_at}
use Rattle.bdb_exec.proofs.looking.plus_of.Given as goal

abbrev pub invariant-loop-entry : goal.invariant-loop-entry
invariant-loop-entry g l = IsReading (g.K.Keeper.seen l.fn.keeper) (g.K.Keeper.seen l.keeper) (record {
  tuples : l.tuples ≡ plus_tuples (map (signed_at (g.K.Keeper.seen l.fn.keeper).kept) (take l.entry-index l.entries));
  reads : (g.K.Keeper.seen l.keeper).reads ≤ (g.K.Keeper.seen l.fn.keeper).reads + l.entry-index;
  memo : Recalls (g.K.Keeper.seen l.fn.keeper).kept l.memo;
})
