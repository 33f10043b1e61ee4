use Rattle.std.proofs.Common.{take}
use Rattle.bdb_memory.specs.Entries.{rows_of, AreAmong}
use Rattle.bdb_memory.specs.Blocks.{joined}
use Rattle.bdb_memory.proofs.rows.PlacedRows.lies_within.Given as goal

abbrev pub invariant-loop-shelf : goal.invariant-loop-shelf
invariant-loop-shelf l = AreAmong (rows_of l.others) (joined (take l.shelf-index l.shelf-items))
