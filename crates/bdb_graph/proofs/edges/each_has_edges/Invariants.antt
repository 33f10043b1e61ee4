use Rattle.std.proofs.Common.{take}
use Rattle.std.specs.List.{AllByRecursion}
use Rattle.bdb_base.specs.Bases.{is_user}
use Rattle.bdb_tables.proofs.Loops.{IsReading}
use Rattle.bdb_graph.specs.States.{HasEdges}
use Rattle.bdb_graph.proofs.edges.each_has_edges.Given as goal

abbrev pub invariant-loop-world : goal.invariant-loop-world
invariant-loop-world g l = IsReading (g.K.Keeper.seen l.fn.keeper) (g.K.Keeper.seen l.keeper) (AllByRecursion (HasEdges (g.K.Keeper.seen l.fn.keeper).kept (is_user l.users) l.worlds) (take l.world-index l.worlds))
