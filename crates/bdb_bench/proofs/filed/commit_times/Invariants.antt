use Rattle.std.proofs.Common.{◌≡◌, ◌≤◌, false}
use Rattle.bdb_bench.proofs.filed.commit_times.Given as goal

abbrev pub invariant-loop-round : goal.invariant-loop-round
invariant-loop-round g l = ((g.K.Keeper.seen l.keeper).running ≡ false) × ((g.K.Keeper.seen l.fn.keeper).faults ≤ (g.K.Keeper.seen l.keeper).faults)
