use Rattle.std.proofs.Common.{rules}
use Rattle.bdb_memory.proofs.TallySteps.{tally-empty}
use Rattle.bdb_memory.proofs.tally.Tally.new.Goals as goal

pub returns : goal.returns
returns c = tally-empty _ (search rules) (search rules)
