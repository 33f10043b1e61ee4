use Rattle.std.proofs.Common.{◌≡◌, false}
use Rattle.bdb_devices.proofs.tests.copying.copy_table.Given as goal

abbrev pub invariant-loop : goal.invariant-loop
invariant-loop l = l.copy.seen.running ≡ false
