use Rattle.std.proofs.Common.{length}
use Rattle.bdb_why.proofs.checking.+is_ground_from.Given as goal

abbrev pub decreases-is_ground_from : goal.decreases-is_ground_from
decreases-is_ground_from l = length l.path.now
