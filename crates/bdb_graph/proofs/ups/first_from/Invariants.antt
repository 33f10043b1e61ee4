use Rattle.std.proofs.Common.{take}
use Rattle.std.specs.List.{AllByRecursion}
use Rattle.bdb_tables.proofs.Loops.{IsReading}
use Rattle.bdb_graph.specs.Ups.{StartsElsewhere}
use Rattle.bdb_graph.proofs.ups.first_from.Given as goal

abbrev pub invariant-loop-row : goal.invariant-loop-row
invariant-loop-row g l = IsReading (g.K.Keeper.seen l.fn.keeper) (g.K.Keeper.seen l.keeper) (AllByRecursion (StartsElsewhere (g.K.Keeper.seen l.fn.keeper).kept l.depth) (take l.row-index l.rows))
