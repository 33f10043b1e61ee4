use Rattle.std.proofs.Common.{◌≡◌, false, length}
use Rattle.bdb_lex.specs.Reading.{begins_gap, IsFound}
use Rattle.bdb_lex.proofs.reader.tokens.Given as goal

abbrev pub invariant-loop-rest : goal.invariant-loop-rest
invariant-loop-rest l = IsFound l.fn.piece l.found l.rest × (begins_gap l.rest ≡ false)

abbrev pub decreases-loop-rest : goal.decreases-loop-rest
decreases-loop-rest l = length l.rest
