use Rattle.std.proofs.Common.{take}
use Rattle.std.specs.List.{AllByRecursion}
use Rattle.bdb_tables.proofs.Loops.{IsReading}
use Rattle.bdb_graph.specs.Leading.{IsLedByEdge}
use Rattle.bdb_graph.proofs.leading.each_is_led.Given as goal

abbrev pub invariant-loop-up : goal.invariant-loop-up
invariant-loop-up g l = IsReading (g.K.Keeper.seen l.fn.keeper) (g.K.Keeper.seen l.keeper) (AllByRecursion (IsLedByEdge (g.K.Keeper.seen l.fn.keeper).kept) (take l.up-index l.ups))
