use Rattle.std.proofs.Common.{◌≡◌, drop}
use Rattle.bdb_bind.specs.Firsts.{first_in}
use Rattle.bdb_bind.specs.QueryLines.{item_user}
use Rattle.bdb_bind.proofs.queries.check_query_users.Given as goal

abbrev pub invariant-loop-item : goal.invariant-loop-item
invariant-loop-item l = first_in (item_user l.users) l.items ≡ first_in (item_user l.users) (drop l.item-index l.items)
