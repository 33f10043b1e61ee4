use Rattle.std.proofs.Common.{◌≡◌, take}
use Rattle.bdb_memory.specs.Blocks.{joined}
use Rattle.bdb_memory.specs.Tallies.{count_among}
use Rattle.bdb_memory.proofs.marked.count_shelves.Given as goal

abbrev pub invariant-loop-shelf : goal.invariant-loop-shelf
invariant-loop-shelf l = l.count ≡ count_among l.tab l.end l.number (joined (take l.shelf-index l.shelves))
