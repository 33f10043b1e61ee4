use Rattle.bdb_memory.proofs.TallySteps.{follows-risen}
use Rattle.bdb_memory.proofs.tally.Tally.count_one.Goals as goal

pub returns : goal.returns
returns c = follows-risen _ _ _ c.number_in.result c.number_in-2.result c.raise_at-first.result c.raise_at-last.result c.number_in.ensures c.number_in-2.ensures c.raise_at-first.ensures c.raise_at-last.ensures c.is_stale_after-self.ensures
