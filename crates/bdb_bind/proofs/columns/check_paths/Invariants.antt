use Rattle.std.proofs.Common.{◌≡◌, drop}
use Rattle.bdb_bind.specs.Firsts.{first_in}
use Rattle.bdb_bind.specs.QueryLines.{in_path, column_not_uid}
use Rattle.bdb_bind.proofs.columns.check_paths.Given as goal

abbrev pub invariant-loop-item : goal.invariant-loop-item
invariant-loop-item l = first_in (in_path (column_not_uid l.items)) l.rest ≡ first_in (in_path (column_not_uid l.items)) (drop l.item-index l.rest)
