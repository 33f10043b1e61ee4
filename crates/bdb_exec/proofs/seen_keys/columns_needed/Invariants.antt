use Rattle.std.proofs.Common.{◌≡◌, ◌≤◌, drop, length}
use Rattle.bdb_exec.specs.SeenKeys.{columns_needed}
use Rattle.bdb_exec.proofs.seen_keys.columns_needed.Given as goal

-- what is needed before the steps from a place on
abbrev pub invariant-loop-at : goal.invariant-loop-at
invariant-loop-at l = record {
  within : l.at ≤ length l.steps;
  columns : l.columns ≡ columns_needed (drop l.at l.steps) l.take;
}

abbrev pub decreases-loop-at : goal.decreases-loop-at
decreases-loop-at l = l.at
