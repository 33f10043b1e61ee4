use Rattle.std.proofs.Common.{◌≡◌, ◌++◌, length}
use Rattle.bdb_parse.specs.Reading.{beliefs_at}
use Rattle.bdb_parse.proofs.beliefs.beliefs.Given as goal

abbrev pub invariant-loop-rest : goal.invariant-loop-rest
invariant-loop-rest l =
    ((beliefs_at l.tokens).0 ≡ l.users ++ (beliefs_at l.rest).0) × ((beliefs_at l.tokens).1 ≡ (beliefs_at l.rest).1)

abbrev pub decreases-loop-rest : goal.decreases-loop-rest
decreases-loop-rest l = length l.rest
