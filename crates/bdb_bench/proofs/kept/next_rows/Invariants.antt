use Rattle.std.proofs.Common.{◌≤◌}
use Rattle.bdb_bench.proofs.kept.next_rows.Given as goal

abbrev pub invariant-loop-found : goal.invariant-loop-found
invariant-loop-found g l = (g.K.Keeper.seen l.fn.keeper).faults ≤ (g.K.Keeper.seen l.keeper).faults
