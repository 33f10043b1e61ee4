use Rattle.std.proofs.Common.{length}
use Rattle.bdb_memory.specs.Blocks.{before, after}
use Rattle.bdb_memory.specs.Entries.{NoneBelow}
use Rattle.bdb_memory.specs.Shelves.{NoRowFrom}
use Rattle.bdb_memory.proofs.finding.row_from.Given as goal

abbrev pub invariant-loop-spot : goal.invariant-loop-spot
invariant-loop-spot l = NoRowFrom l.probe (before l.blocks l.bound.0 l.bound.1) × NoneBelow l.probe (after l.blocks l.bound.0 l.bound.1)

abbrev pub decreases-loop-spot : goal.decreases-loop-spot
decreases-loop-spot l = length (after l.blocks l.bound.0 l.bound.1)
