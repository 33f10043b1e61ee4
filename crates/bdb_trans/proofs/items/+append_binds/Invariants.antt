use Rattle.std.proofs.Common.{length}
use Rattle.bdb_trans.proofs.items.+append_binds.Given as goal

abbrev pub decreases-append_binds : goal.decreases-append_binds
decreases-append_binds l = length l.cols.now
