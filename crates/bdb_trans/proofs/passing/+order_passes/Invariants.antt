use Rattle.std.proofs.Common.{length}
use Rattle.bdb_trans.proofs.passing.+order_passes.Given as goal

abbrev pub decreases-order_passes : goal.decreases-order_passes
decreases-order_passes l = length l.order.now
