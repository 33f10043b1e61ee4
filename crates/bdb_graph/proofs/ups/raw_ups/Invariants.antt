use Rattle.std.proofs.Common.{take}
use Rattle.bdb_tables.proofs.Loops.{IsReading}
use Rattle.bdb_graph.specs.Ups.{AreUps}
use Rattle.bdb_graph.proofs.ups.raw_ups.Given as goal

abbrev pub invariant-loop-row : goal.invariant-loop-row
invariant-loop-row g l = IsReading (g.K.Keeper.seen l.fn.keeper) (g.K.Keeper.seen l.keeper) (AreUps (g.K.Keeper.seen l.fn.keeper).kept (take l.row-index l.depths) l.ups.items)
