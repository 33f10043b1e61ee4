use Rattle.std.proofs.Common.{◌≡◌, drop}
use Rattle.bdb_bind.specs.Safe.{bound_columns, known_after}
use Rattle.bdb_bind.proofs.safety.bound_columns.Given as goal

abbrev pub invariant-loop-step : goal.invariant-loop-step
invariant-loop-step l = bound_columns l.items l.conds ≡ known_after l.items l.conds l.known (drop l._step-index l.conds)
