use Rattle.std.proofs.Common.{take}
use Rattle.bdb_memory.specs.Entries.{rows_of, AreAmong}
use Rattle.bdb_memory.specs.Blocks.{joined}
use Rattle.bdb_memory.proofs.rows.has_blocks.Given as goal

abbrev pub invariant-loop-block : goal.invariant-loop-block
invariant-loop-block l = AreAmong (rows_of l.others) (joined (take l.block-index l.blocks))
