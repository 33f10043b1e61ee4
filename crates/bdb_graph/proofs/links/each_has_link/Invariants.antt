use Rattle.std.proofs.Common.{take}
use Rattle.std.specs.List.{AllByRecursion}
use Rattle.bdb_tables.proofs.Loops.{IsReading}
use Rattle.bdb_graph.specs.States.{HasLink}
use Rattle.bdb_graph.proofs.links.each_has_link.Given as goal

abbrev pub invariant-loop-world : goal.invariant-loop-world
invariant-loop-world g l = IsReading (g.K.Keeper.seen l.fn.keeper) (g.K.Keeper.seen l.keeper) (AllByRecursion (HasLink (g.K.Keeper.seen l.fn.keeper).kept l.worlds) (take l.world-index l.worlds))
