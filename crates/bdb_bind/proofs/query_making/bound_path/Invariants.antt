use Rattle.std.proofs.Common.{◌≡◌, map, take}
use Rattle.bdb_bind.specs.QueryBinding.{query_who}
use Rattle.bdb_bind.proofs.query_making.bound_path.Given as goal

abbrev pub invariant-loop-who : goal.invariant-loop-who
invariant-loop-who l = l.bound ≡ map (query_who l.catalog.users l.items) (take l.who-index l.path)
