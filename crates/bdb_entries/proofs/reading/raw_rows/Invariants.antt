use Rattle.std.proofs.Common.{[]}
use Rattle.bdb_tables.proofs.Loops.{IsReading}
use Rattle.bdb_tables.proofs.SpanLemmas.{Covers}
use Rattle.bdb_entries.proofs.reading.raw_rows.Given as goal

abbrev pub invariant-loop : goal.invariant-loop
invariant-loop g l = IsReading (g.K.Keeper.seen l.fn.keeper) (g.K.Keeper.seen l.keeper) (Covers g.T.Tab.codec (g.K.Keeper.seen l.fn.keeper).kept [] l.low.items l.rows.items)
