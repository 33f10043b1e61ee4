use Rattle.std.proofs.Common.{length}
use Rattle.bdb_model.proofs.ends.+push_at_ends.Given as goal

abbrev pub decreases-push_at_ends : goal.decreases-push_at_ends
decreases-push_at_ends l = length l.path.now
