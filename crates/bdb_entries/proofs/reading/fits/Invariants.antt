use Rattle.bdb_tables.proofs.Loops.{IsReading}
use Rattle.bdb_entries.proofs.ReadLemmas.{Passed}
use Rattle.bdb_entries.proofs.reading.fits.Given as goal

abbrev pub invariant-loop : goal.invariant-loop
invariant-loop g l = IsReading (g.K.Keeper.seen l.fn.keeper) (g.K.Keeper.seen l.keeper) (Passed g.T.Tab.codec (g.K.Keeper.seen l.fn.keeper).kept l.low.items)
