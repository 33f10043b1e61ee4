use Rattle.std.proofs.Common.{◌≡◌, take}
use Rattle.bdb_memory.specs.Blocks.{joined}
use Rattle.bdb_memory.specs.Tallies.{count_among}
use Rattle.bdb_memory.proofs.marked.count_blocks.Given as goal

abbrev pub invariant-loop-block : goal.invariant-loop-block
invariant-loop-block l = l.count ≡ count_among l.tab l.end l.number (joined (take l.block-index l.blocks))
