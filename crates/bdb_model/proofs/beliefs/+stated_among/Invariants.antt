use Rattle.std.proofs.Common.{length}
use Rattle.bdb_model.proofs.beliefs.+stated_among.Given as goal

abbrev pub decreases-stated_among : goal.decreases-stated_among
decreases-stated_among l = length l.path.now
