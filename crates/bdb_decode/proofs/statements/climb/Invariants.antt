use Rattle.std.proofs.Common.{◌≡◌, length}
use Rattle.bdb_decode.specs.Statements.{climbs, place_cmp}
use Rattle.bdb_decode.proofs.statements.climb.Given as goal

abbrev pub decreases-loop-rest : goal.decreases-loop-rest
decreases-loop-rest l = length l.rest

abbrev pub invariant-loop-rest : goal.invariant-loop-rest
invariant-loop-rest l = climbs place_cmp l.fn.stmts ≡ climbs place_cmp l.rest
