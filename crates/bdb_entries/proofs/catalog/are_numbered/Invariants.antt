use Rattle.std.proofs.Common.{◌≡◌, length}
use Rattle.bdb_entries.specs.Numbered.{are_numbered}
use Rattle.bdb_entries.proofs.catalog.are_numbered.Given as goal

abbrev pub decreases-loop-rest : goal.decreases-loop-rest
decreases-loop-rest g l = length l.rest

abbrev pub invariant-loop-rest : goal.invariant-loop-rest
invariant-loop-rest g l = are_numbered l.fn.first l.fn.rows ≡ are_numbered l.next l.rest
