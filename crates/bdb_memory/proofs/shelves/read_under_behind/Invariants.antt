use Rattle.std.proofs.Common.{◌≡◌, ◌-◌, ◌++◌, length}
use Rattle.bdb_memory.specs.Blocks.{after}
use Rattle.bdb_memory.specs.Under.{entries_under}
use Rattle.bdb_memory.proofs.shelves.read_under_behind.Given as goal

abbrev pub invariant-loop-at : goal.invariant-loop-at
invariant-loop-at l = l.span ++ entries_under l.probe (after l.shelves l.at 0) ≡ l.fn.span ++ entries_under l.probe (after l.shelves l.start 0)

abbrev pub decreases-loop-at : goal.decreases-loop-at
decreases-loop-at l = length l.shelves - l.at
