use Rattle.bdb_update.proofs.ReadingLemmas.{count_tells}
use Rattle.bdb_update.proofs.reading.is_told.Goals as goal

pub returns-in-Ok-clause-told : goal.returns-in-Ok-clause-told
returns-in-Ok-clause-told g c = count_tells (g.K.Keeper.seen c.args.keeper.now).kept c.args.tid c.in-Ok.count c.in-Ok.ensures.counted
