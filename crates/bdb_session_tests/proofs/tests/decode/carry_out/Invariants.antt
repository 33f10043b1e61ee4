use Rattle.std.proofs.Common.{◌≡◌, false}
use Rattle.bdb_session_tests.proofs.tests.decode.carry_out.Given as goal

abbrev pub invariant-loop-change : goal.invariant-loop-change
invariant-loop-change l =
    (l.keeper.running ≡ false) ×
    goal.iterator-loop-change.can_next l.change-iterator ×
    goal.iterator-loop-change.is_finite l.change-iterator
