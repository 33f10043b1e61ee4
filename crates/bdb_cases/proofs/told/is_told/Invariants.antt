use Rattle.std.proofs.Common.{◌≡◌, false}
use Rattle.bdb_cases.proofs.told.is_told.Given as goal

abbrev pub invariant-loop-line : goal.invariant-loop-line
invariant-loop-line l =
    (goal.iterator-loop-line).can_next l.line-iterator ×
    (goal.iterator-loop-line).is_finite l.line-iterator ×
    (l.keeper.running ≡ false)
