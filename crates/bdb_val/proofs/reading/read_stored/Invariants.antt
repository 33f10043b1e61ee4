use Rattle.std.proofs.Common.{◌≡◌, ◌+◌, ◌≤◌, length, take}
use Rattle.bdb_tables.proofs.Loops.{IsReading}
use Rattle.bdb_val.proofs.ToldLemmas.{AreToldAt}
use Rattle.bdb_val.proofs.reading.read_stored.Given as goal

abbrev pub invariant-loop-entry : goal.invariant-loop-entry
invariant-loop-entry g l = IsReading (g.K.Keeper.seen l.fn.keeper) (g.K.Keeper.seen l.keeper) (record {
  told : AreToldAt (g.K.Keeper.seen l.fn.keeper).kept (take l.entry-index l.entry-items) l.rows.items;
  many : length l.rows.items ≡ l.entry-index;
  reads : (g.K.Keeper.seen l.keeper).reads ≤ (g.K.Keeper.seen l.fn.keeper).reads + (length l.entry-items + 1) + l.entry-index;
})
