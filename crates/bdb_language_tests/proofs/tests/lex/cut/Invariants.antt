use Rattle.std.proofs.Common.{◌≡◌, false}
use Rattle.bdb_language_tests.proofs.tests.lex.cut.Given as goal

abbrev pub invariant-loop-part : goal.invariant-loop-part
invariant-loop-part l = l.cutter.is_spent ≡ false
