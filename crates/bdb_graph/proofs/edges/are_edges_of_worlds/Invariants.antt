use Rattle.bdb_graph.specs.States.{is_edge_key}
use Rattle.bdb_tables.specs.InUse.{edge_codec}
use Rattle.bdb_tables.proofs.Loops.{IsReading}
use Rattle.bdb_graph.proofs.PassLemmas.{PassedKeys}
use Rattle.bdb_graph.proofs.edges.are_edges_of_worlds.Given as goal

abbrev pub invariant-loop : goal.invariant-loop
invariant-loop g l = IsReading (g.K.Keeper.seen l.fn.keeper) (g.K.Keeper.seen l.keeper) (PassedKeys edge_codec (is_edge_key l.users l.worlds) (g.K.Keeper.seen l.fn.keeper).kept l.low.items)
