use Rattle.bdb_val.proofs.NumberedLemmas.{RiseTo}
use Rattle.bdb_val.proofs.numbered.are_rising.Given as goal

abbrev pub invariant-loop-at : goal.invariant-loop-at
invariant-loop-at l = RiseTo l.rows l.at
