use Rattle.std.proofs.Common.{length}
use Rattle.bdb_trans.proofs.names.+named.Given as goal

abbrev pub decreases-named : goal.decreases-named
decreases-named l = length l.names.now
