use Rattle.std.proofs.Common.{◌≡◌, map}
use Rattle.bdb_bind.specs.Binding.{bound_cond}
use Rattle.bdb_bind.proofs.making.bound_conds.Given as goal

abbrev pub invariant-loop-cond : goal.invariant-loop-cond
invariant-loop-cond l = l.bound ≡ map (bound_cond l.cols) l.yielded
