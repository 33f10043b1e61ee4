use Rattle.std.proofs.Common.{◌≡◌, drop}
use Rattle.bdb_bind.specs.Firsts.{first_in}
use Rattle.bdb_bind.specs.QueryLines.{who_user}
use Rattle.bdb_bind.proofs.queries.check_path.Given as goal

abbrev pub invariant-loop-who : goal.invariant-loop-who
invariant-loop-who l = first_in (who_user l.users) l.path ≡ first_in (who_user l.users) (drop l.who-index l.path)
