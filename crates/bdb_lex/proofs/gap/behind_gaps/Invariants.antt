use Rattle.std.proofs.Common.{◌≡◌, ◌≤◌, length}
use Rattle.bdb_lex.specs.Reading.{behind_gaps}
use Rattle.bdb_lex.proofs.gap.behind_gaps.Given as goal

abbrev pub invariant-loop-after : goal.invariant-loop-after
invariant-loop-after l = (behind_gaps l.rest ≡ behind_gaps l.bytes) × (length l.rest ≤ length l.bytes)

abbrev pub decreases-loop-after : goal.decreases-loop-after
decreases-loop-after l = length l.rest
