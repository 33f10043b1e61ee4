use Rattle.std.proofs.Common.{sym, ap, subst, ◌∙◌}
use Rattle.bdb_entries.specs.Format.{TellsFormat, format_of}
use Rattle.bdb_entries.proofs.FormatLemmas.{rows_tell, misfit_is_damaged}
use Rattle.bdb_entries.proofs.ReadLemmas.{none_told, some_told}
use Rattle.bdb_entries.proofs.format.read_format.Goals as goal

pub returns-in-Ok-Some-clause-format : goal.returns-in-Ok-Some-clause-format
returns-in-Ok-Some-clause-format g c =
    let t = (g.K.Keeper.seen c.args.keeper.now).kept in
    subst (TellsFormat t) (ap format_of (sym c.deref.ensures.value) ∙ sym c.format_of.ensures)
    (rows_tell t c.in-Ok-Some.rows.items (some_told _ _ c.in-Ok-Some.field-0 c.in-Ok-Some.rows c.in-Ok-Some.field-0-is c.in-Ok-Some.ensures.rows))

pub returns-in-Ok-None-clause-format : goal.returns-in-Ok-None-clause-format
returns-in-Ok-None-clause-format g c = misfit_is_damaged (g.K.Keeper.seen c.args.keeper.now).kept (none_told _ _ c.in-Ok-None.field-0 c.in-Ok-None.field-0-is c.in-Ok-None.ensures.rows)
