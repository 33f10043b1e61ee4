use Rattle.std.proofs.Common.{◌≡◌, drop}
use Rattle.bdb_bind.specs.Firsts.{first_in}
use Rattle.bdb_bind.specs.QueryLines.{in_path, column_alias}
use Rattle.bdb_bind.proofs.aliases.check_paths.Given as goal

abbrev pub invariant-loop-item : goal.invariant-loop-item
invariant-loop-item l = first_in (in_path (column_alias l.items)) l.rest ≡ first_in (in_path (column_alias l.items)) (drop l.item-index l.rest)
