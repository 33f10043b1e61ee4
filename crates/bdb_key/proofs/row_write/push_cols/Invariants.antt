use Rattle.std.proofs.Common.{◌≡◌, ◌++◌, take}
use Rattle.std.specs.List.{flat_map}
use Rattle.bdb_key.specs.Rows.{col_bytes}
use Rattle.bdb_key.proofs.row_write.push_cols.Given as goal

abbrev pub invariant-loop-col : goal.invariant-loop-col
invariant-loop-col l = l.out.items ≡ l.initial.out.items ++ flat_map col_bytes (take l.col-index l.cols)
