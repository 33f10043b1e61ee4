use Rattle.std.proofs.Common.{take}
use Rattle.std.specs.List.{AllByRecursion}
use Rattle.bdb_tables.proofs.Loops.{IsReading}
use Rattle.bdb_entries.specs.Tuples.{IsTurned}
use Rattle.bdb_entries.proofs.tuples.are_turned.Given as goal

abbrev pub invariant-loop-row : goal.invariant-loop-row
invariant-loop-row g l = IsReading (g.K.Keeper.seen l.fn.keeper) (g.K.Keeper.seen l.keeper) (AllByRecursion (IsTurned g.T.Tab.codec (g.K.Keeper.seen l.fn.keeper).kept) (take l.row-index l.rows))
