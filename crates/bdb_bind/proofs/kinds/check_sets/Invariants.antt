use Rattle.std.proofs.Common.{◌≡◌, not, find, drop}
use Rattle.bdb_bind.specs.Lines.{fits_set}
use Rattle.bdb_bind.proofs.kinds.check_sets.Given as goal

abbrev pub invariant-loop-set : goal.invariant-loop-set
invariant-loop-set l = find (λ s. not (fits_set l.cols s)) l.sets ≡ find (λ s. not (fits_set l.cols s)) (drop l.set-index l.sets)
