use Rattle.std.proofs.Common.{◌≡◌}
use Rattle.std.specs.Iterator.Adapters.{zip_first, zip_second}
use Rattle.std.specs.Slice.Iter.{iter_rest}
use Rattle.bdb_bind.specs.Lines.{misfit}
use Rattle.bdb_bind.proofs.kinds.check_values.Given as goal

abbrev pub invariant-loop-col : goal.invariant-loop-col
invariant-loop-col l = misfit l.cols l.vals ≡ misfit (iter_rest (zip_first l.col-iterator)) (iter_rest (zip_second l.col-iterator))
