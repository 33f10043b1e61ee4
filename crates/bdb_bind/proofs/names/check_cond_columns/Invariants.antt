use Rattle.std.proofs.Common.{◌≡◌, drop}
use Rattle.bdb_bind.specs.Parts.{cond_columns}
use Rattle.bdb_bind.specs.Lines.{missing_column}
use Rattle.bdb_bind.proofs.names.check_cond_columns.Given as goal

abbrev pub invariant-loop-cond : goal.invariant-loop-cond
invariant-loop-cond l = missing_column l.cols (cond_columns l.conds) ≡ missing_column l.cols (cond_columns (drop l.cond-index l.conds))
