use Rattle.std.proofs.Common.{◌≡◌, drop}
use Rattle.bdb_bind.specs.Firsts.{first_in}
use Rattle.bdb_bind.specs.QueryLines.{column_missing}
use Rattle.bdb_bind.proofs.columns.check_columns.Given as goal

abbrev pub invariant-loop-col : goal.invariant-loop-col
invariant-loop-col l = first_in (column_missing l.rels l.items) l.cols ≡ first_in (column_missing l.rels l.items) (drop l.col-index l.cols)
