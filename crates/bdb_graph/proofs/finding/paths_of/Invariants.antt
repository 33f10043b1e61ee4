use Rattle.std.proofs.Common.{take}
use Rattle.bdb_graph.specs.States.{ArePathsOf}
use Rattle.bdb_graph.proofs.finding.paths_of.Given as goal

abbrev pub invariant-loop-world : goal.invariant-loop-world
invariant-loop-world l = ArePathsOf (take l.world-index l.worlds) l.paths
