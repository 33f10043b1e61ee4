use Rattle.std.proofs.Common.{◌≡◌, drop}
use Rattle.bdb_bind.specs.Firsts.{first_in}
use Rattle.bdb_bind.specs.QueryLines.{in_who, column_not_uid}
use Rattle.bdb_bind.proofs.columns.check_path.Given as goal

abbrev pub invariant-loop-who : goal.invariant-loop-who
invariant-loop-who l = first_in (in_who (column_not_uid l.items)) l.path ≡ first_in (in_who (column_not_uid l.items)) (drop l.who-index l.path)
