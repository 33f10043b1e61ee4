use Rattle.std.proofs.Common.{length}
use Rattle.bdb_base.proofs.order.+row_order.Given as goal

abbrev pub decreases-row_order : goal.decreases-row_order
decreases-row_order l = length l.a.now
