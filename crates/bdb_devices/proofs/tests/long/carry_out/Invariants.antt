use Rattle.std.proofs.Common.{◌≡◌, false}
use Rattle.bdb_devices.proofs.tests.long.carry_out.Given as goal

abbrev pub invariant-loop-faults : goal.invariant-loop-faults
invariant-loop-faults l = record {
  idle_keeper : l.pair.keeper.seen.running ≡ false;
  idle_twin : l.pair.twin.seen.running ≡ false;
}
