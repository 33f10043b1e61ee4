use Rattle.std.proofs.Common.{length}
use Rattle.bdb_trans.proofs.sources.+append_given.Given as goal

abbrev pub decreases-append_given : goal.decreases-append_given
decreases-append_given l = length l.items.now
