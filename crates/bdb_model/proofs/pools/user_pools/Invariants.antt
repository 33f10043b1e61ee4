use Rattle.std.proofs.Common.{◌≡◌, map, take}
use Rattle.bdb_model.specs.Pools.{user_pool}
use Rattle.bdb_model.proofs.pools.user_pools.Given as goal

abbrev pub invariant-loop-item : goal.invariant-loop-item
invariant-loop-item l = l.pools.items ≡ map (user_pool l.users) (take l.item-index l.items)
