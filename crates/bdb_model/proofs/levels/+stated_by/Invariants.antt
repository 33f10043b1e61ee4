use Rattle.std.proofs.Common.{length}
use Rattle.bdb_model.proofs.levels.+stated_by.Given as goal

abbrev pub decreases-stated_by : goal.decreases-stated_by
decreases-stated_by l = length l.levels.now
