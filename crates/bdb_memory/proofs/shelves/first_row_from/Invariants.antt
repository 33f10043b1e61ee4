use Rattle.std.proofs.Common.{◌-◌, length}
use Rattle.bdb_memory.specs.Blocks.{before}
use Rattle.bdb_memory.specs.Shelves.{NoRowFrom}
use Rattle.bdb_memory.proofs.shelves.first_row_from.Given as goal

abbrev pub invariant-loop-at : goal.invariant-loop-at
invariant-loop-at l = NoRowFrom l.probe (before l.shelves l.at 0)

abbrev pub decreases-loop-at : goal.decreases-loop-at
decreases-loop-at l = length l.shelves - l.at
