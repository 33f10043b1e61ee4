use Rattle.std.proofs.Common.{◌≡◌, ◌++◌, map, take, drop}
use Rattle.bdb_memory.specs.Blocks.{without_empty}
use Rattle.bdb_memory.proofs.blocks.drop_empty_places.Given as goal

abbrev pub invariant-loop-block : goal.invariant-loop-block
invariant-loop-block l = l.block-items ≡ map without_empty (take l.block-index l.fn.blocks.items) ++ drop l.block-index l.fn.blocks.items
