use Rattle.std.proofs.Common.{◌≡◌, not, find, drop}
use Rattle.bdb_bind.specs.Lines.{fits_cond}
use Rattle.bdb_bind.proofs.kinds.check_conds.Given as goal

abbrev pub invariant-loop-cond : goal.invariant-loop-cond
invariant-loop-cond l = find (λ c. not (fits_cond l.cols c)) l.conds ≡ find (λ c. not (fits_cond l.cols c)) (drop l.cond-index l.conds)
