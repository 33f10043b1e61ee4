use Rattle.std.proofs.Common.{◌≡◌, false}
use Rattle.bdb_strangers.proofs.tests.changes.carry_out.Given as goal

abbrev pub invariant-loop-change : goal.invariant-loop-change
invariant-loop-change g l =
    (g.S.Settable.running l.keeper ≡ false) ×
    (goal.iterator-loop-change g).can_next l.change-iterator ×
    (goal.iterator-loop-change g).is_finite l.change-iterator
