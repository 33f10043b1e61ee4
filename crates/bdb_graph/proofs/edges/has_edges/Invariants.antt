use Rattle.bdb_base.specs.Bases.{is_user}
use Rattle.bdb_tables.proofs.Loops.{IsReading}
use Rattle.bdb_graph.proofs.EdgeLemmas.{HasEdgesTo}
use Rattle.bdb_graph.proofs.edges.has_edges.Given as goal

abbrev pub invariant-loop-at : goal.invariant-loop-at
invariant-loop-at g l = IsReading (g.K.Keeper.seen l.fn.keeper) (g.K.Keeper.seen l.keeper) (HasEdgesTo (g.K.Keeper.seen l.fn.keeper).kept (is_user l.users) l.worlds l.world l.at)
