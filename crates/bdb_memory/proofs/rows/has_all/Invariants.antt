use Rattle.std.proofs.Common.{take}
use Rattle.bdb_memory.specs.Entries.{rows_of, AreAmong}
use Rattle.bdb_memory.proofs.rows.has_all.Given as goal

abbrev pub invariant-loop-entry : goal.invariant-loop-entry
invariant-loop-entry l = AreAmong (rows_of l.others) (take l.entry-index l.entries)
