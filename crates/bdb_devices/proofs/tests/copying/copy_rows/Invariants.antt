use Rattle.std.proofs.Common.{◌≡◌, false}
use Rattle.bdb_devices.proofs.tests.copying.copy_rows.Given as goal

abbrev pub invariant-loop-tab : goal.invariant-loop-tab
invariant-loop-tab l = l.copy.seen.running ≡ false
