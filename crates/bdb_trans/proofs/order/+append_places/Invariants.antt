use Rattle.std.proofs.Common.{length}
use Rattle.bdb_trans.proofs.order.+append_places.Given as goal

abbrev pub decreases-append_places : goal.decreases-append_places
decreases-append_places l = length l.items.now
