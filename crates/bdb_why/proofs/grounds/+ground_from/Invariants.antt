use Rattle.std.proofs.Common.{length}
use Rattle.bdb_why.proofs.grounds.+ground_from.Given as goal

abbrev pub decreases-ground_from : goal.decreases-ground_from
decreases-ground_from l = length l.path.now
