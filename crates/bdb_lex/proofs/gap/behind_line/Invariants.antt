use Rattle.std.proofs.Common.{◌≡◌, ◌≤◌, true, length}
use Rattle.bdb_lex.specs.Reading.{behind}
use Rattle.bdb_lex.proofs.gap.behind_line.Given as goal

abbrev pub invariant-loop-rest : goal.invariant-loop-rest
invariant-loop-rest l = (behind true l.bytes ≡ behind true l.rest) × (length l.rest ≤ length l.bytes)

abbrev pub decreases-loop-rest : goal.decreases-loop-rest
decreases-loop-rest l = length l.rest
