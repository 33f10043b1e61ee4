use Rattle.std.proofs.Common.{◌≡◌, map}
use Rattle.bdb_bind.specs.Binding.{bound_set}
use Rattle.bdb_bind.proofs.making.bound_sets.Given as goal

abbrev pub invariant-loop-set : goal.invariant-loop-set
invariant-loop-set l = l.bound ≡ map (bound_set l.cols) l.yielded
