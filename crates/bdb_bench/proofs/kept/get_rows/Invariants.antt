use Rattle.std.proofs.Common.{◌≤◌}
use Rattle.bdb_bench.proofs.kept.get_rows.Given as goal

abbrev pub invariant-loop-number : goal.invariant-loop-number
invariant-loop-number g l = (g.K.Keeper.seen l.fn.keeper).faults ≤ (g.K.Keeper.seen l.keeper).faults
