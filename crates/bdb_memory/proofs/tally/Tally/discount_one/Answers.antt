use Rattle.bdb_memory.proofs.TallySteps.{follows-fallen}
use Rattle.bdb_memory.proofs.tally.Tally.discount_one.Goals as goal

pub returns : goal.returns
returns c = follows-fallen _ _ _ c.number_in.result c.number_in-2.result c.lower_at-first.result c.lower_at-last.result c.number_in.ensures c.number_in-2.ensures c.lower_at-first.ensures c.lower_at-last.ensures c.is_stale_after-self.ensures
