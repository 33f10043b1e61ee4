use Rattle.std.proofs.Common.{take}
use Rattle.bdb_graph.specs.Naming.{AreNamedUps}
use Rattle.bdb_graph.proofs.naming.named_ups.Given as goal

abbrev pub invariant-loop-up : goal.invariant-loop-up
invariant-loop-up l = AreNamedUps l.ups (take l.up-index l.ups) l.worlds.items
