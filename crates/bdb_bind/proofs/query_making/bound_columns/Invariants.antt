use Rattle.std.proofs.Common.{◌≡◌, map, take}
use Rattle.bdb_bind.specs.QueryBinding.{query_column_at}
use Rattle.bdb_bind.proofs.query_making.bound_columns.Given as goal

abbrev pub invariant-loop-col : goal.invariant-loop-col
invariant-loop-col l = l.bound ≡ map (query_column_at l.catalog.rels l.items) (take l.col-index l.cols)
