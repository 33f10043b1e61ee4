use Rattle.bdb_tables.proofs.Loops.{IsReading}
use Rattle.bdb_graph.proofs.TurningLemmas.{TurnedBelow}
use Rattle.bdb_graph.proofs.turning.are_turned.Given as goal

abbrev pub invariant-loop : goal.invariant-loop
invariant-loop g l = IsReading (g.K.Keeper.seen l.fn.keeper) (g.K.Keeper.seen l.keeper) (TurnedBelow (g.K.Keeper.seen l.fn.keeper).kept l.tab l.way l.other l.low.items)
