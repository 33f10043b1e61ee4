use Rattle.std.proofs.Common.{◌≡◌, drop}
use Rattle.bdb_exec.specs.SeenKeys.{behind_tests}
use Rattle.bdb_exec.proofs.seen_keys.tests_ahead.Given as goal

-- the tests that are left decide
abbrev pub invariant-loop-step : goal.invariant-loop-step
invariant-loop-step l = record {
  done : l.done ≡ l.step-index;
  rest : behind_tests l.slots (drop l.step-index l.steps) ≡ behind_tests l.slots l.steps;
}
