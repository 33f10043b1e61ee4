use Rattle.std.proofs.Common.{length}
use Rattle.bdb_model.proofs.pools.+push_minus_pools.Given as goal

abbrev pub decreases-push_minus_pools : goal.decreases-push_minus_pools
decreases-push_minus_pools l = length l.items.now
