use Rattle.std.proofs.Common.{◌≡◌, map, drop}
use Rattle.bdb_bind.specs.Lines.{missing_column}
use Rattle.bdb_bind.proofs.names.check_set_columns.Given as goal

abbrev pub invariant-loop-set : goal.invariant-loop-set
invariant-loop-set l = missing_column l.cols (map (λ s. s.col) l.sets) ≡ missing_column l.cols (map (λ s. s.col) (drop l.set-index l.sets))
