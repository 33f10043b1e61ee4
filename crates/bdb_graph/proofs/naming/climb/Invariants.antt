use Rattle.std.proofs.Common.{◌≡◌, []}
use Rattle.bdb_graph.specs.Naming.{climb}
use Rattle.bdb_graph.proofs.naming.climb.Given as goal

abbrev pub invariant-loop-left : goal.invariant-loop-left
invariant-loop-left l = climb l.ups l.left l.at l.users.items ≡ climb l.ups l.depth l.wid []

abbrev pub decreases-loop-left : goal.decreases-loop-left
decreases-loop-left l = l.left
