use Rattle.bdb_decode.proofs.settles.has_from.Given as goal

abbrev pub invariant-loop-place : goal.invariant-loop-place
invariant-loop-place l = Unit {0}
