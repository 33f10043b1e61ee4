use Rattle.bdb_tables.proofs.MarkLemmas.{has_mark}
use Rattle.bdb_tables.proofs.marks.mark_under.Goals as goal

pub returns-in-Ok-clause-found : goal.returns-in-Ok-clause-found
returns-in-Ok-clause-found g c = has_mark (g.K.Keeper.seen c.args.keeper.now).kept c.args.prefix.now c.args.tid c.in-Ok.mark c.in-Ok.ensures.found
