use Rattle.std.proofs.Common.{◌≡◌, drop}
use Rattle.bdb_bind.specs.Firsts.{first_in}
use Rattle.bdb_bind.specs.QueryLines.{column_alias}
use Rattle.bdb_bind.proofs.aliases.check_columns.Given as goal

abbrev pub invariant-loop-col : goal.invariant-loop-col
invariant-loop-col l = first_in (column_alias l.items) l.cols ≡ first_in (column_alias l.items) (drop l.col-index l.cols)
