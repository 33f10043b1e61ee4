use Rattle.std.proofs.Common.{◌≡◌, ◌++◌, drop}
use Rattle.std.specs.List.{slice_get}
use Rattle.std.specs.Option.{option_map}
use Rattle.bdb_exec.specs.Indexes.{values_of}
use Rattle.bdb_exec.proofs.index.values_at.Given as goal

abbrev pub invariant-loop-col : goal.invariant-loop-col
invariant-loop-col l = values_of (slice_get l.tuple.vals) l.cols ≡ option_map (λ vs. l.values ++ vs) (values_of (slice_get l.tuple.vals) (drop l.col-index l.cols))
