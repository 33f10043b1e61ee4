use Rattle.bdb_tables.proofs.MarkLemmas.{have_marks, are_changes}
use Rattle.bdb_tables.proofs.marks.write_marks.Goals as goal

pub returns-in-Ok-clause-kept : goal.returns-in-Ok-clause-kept
returns-in-Ok-clause-kept g c =
    have_marks (g.K.Keeper.seen c.args.keeper.now).kept (g.K.Keeper.seen c.change_marks.new.keeper).kept c.args.prefix.now.items c.args.changes.now c.in-Ok.ensures.kept

pub returns-in-Ok-clause-fits : goal.returns-in-Ok-clause-fits
returns-in-Ok-clause-fits g c = are_changes c.args.prefix.now.items c.args.changes.now c.in-Ok.ensures.fits
