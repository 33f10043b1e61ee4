use Rattle.std.proofs.Common.{length}
use Rattle.bdb_trans.proofs.passing.+given_set.Given as goal

abbrev pub decreases-given_set : goal.decreases-given_set
decreases-given_set l = length l.items.now
