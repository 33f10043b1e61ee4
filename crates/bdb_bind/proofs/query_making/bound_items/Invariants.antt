use Rattle.std.proofs.Common.{◌≡◌, map, take}
use Rattle.bdb_bind.specs.QueryBinding.{query_item}
use Rattle.bdb_bind.proofs.query_making.bound_items.Given as goal

abbrev pub invariant-loop-item : goal.invariant-loop-item
invariant-loop-item l = l.bound ≡ map (query_item l.catalog l.items) (take l.item-index l.rest)
