use Rattle.std.proofs.Common.{length}
use Rattle.bdb_model.proofs.pools.+push_plus_pools.Given as goal

abbrev pub decreases-push_plus_pools : goal.decreases-push_plus_pools
decreases-push_plus_pools l = length l.items.now
