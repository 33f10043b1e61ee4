use Rattle.std.proofs.Common.{◌≡◌, ◌++◌, map, take, drop}
use Rattle.bdb_memory.specs.Blocks.{without_empty}
use Rattle.bdb_memory.proofs.shelves.drop_empty_places.Given as goal

abbrev pub invariant-loop-shelf : goal.invariant-loop-shelf
invariant-loop-shelf l = l.shelf-items ≡ map without_empty (take l.shelf-index l.fn.shelves.items) ++ drop l.shelf-index l.fn.shelves.items
