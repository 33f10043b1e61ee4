use Rattle.bdb_tables.proofs.MarkLemmas.{are_marks}
use Rattle.bdb_tables.proofs.marks.marks_under.Goals as goal

pub returns-in-Ok-clause-rows : goal.returns-in-Ok-clause-rows
returns-in-Ok-clause-rows g c = are_marks (g.K.Keeper.seen c.args.keeper.now).kept c.args.prefix.now c.read_numbered.new.rows.items c.in-Ok.ensures.rows
