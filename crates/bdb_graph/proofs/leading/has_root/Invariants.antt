use Rattle.std.proofs.Common.{◌≡◌, length}
use Rattle.bdb_graph.specs.Leading.{has_root}
use Rattle.bdb_graph.proofs.leading.has_root.Given as goal

abbrev pub invariant-loop-rest : goal.invariant-loop-rest
invariant-loop-rest l = has_root l.rest ≡ has_root l.ups

abbrev pub decreases-loop-rest : goal.decreases-loop-rest
decreases-loop-rest l = length l.rest
