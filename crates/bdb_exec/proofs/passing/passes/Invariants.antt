use Rattle.std.proofs.Common.{◌≡◌, Some, drop, slice_set}
use Rattle.bdb_exec.specs.Keys.{tests_hold}
use Rattle.bdb_exec.proofs.passing.passes.Given as goal

-- the tests that are left decide
abbrev pub invariant-loop-step : goal.invariant-loop-step
invariant-loop-step l = tests_hold (slice_set l.slots l.item (Some l.tuple)) l.behind ≡ tests_hold (slice_set l.slots l.item (Some l.tuple)) (drop l.step-index l.behind)
