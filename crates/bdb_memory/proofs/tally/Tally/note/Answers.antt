use Rattle.std.proofs.Common.{rules}
use Rattle.bdb_memory.proofs.TallySteps.{follows-same}
use Rattle.bdb_memory.proofs.tally.Tally.note.Goals as goal

pub returns-else-was-is : goal.returns-else-was-is
returns-else-was-is c = follows-same _ _ _ _ (search rules)
