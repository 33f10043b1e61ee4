use Rattle.std.proofs.Common.{sym, ◌∙◌}
use Rattle.bdb_entries.proofs.FormatLemmas.{fits_are_entries}
use Rattle.bdb_entries.proofs.grammar.table_fits.Goals as goal

pub returns-in-Ok-clause-entries : goal.returns-in-Ok-clause-entries
returns-in-Ok-clause-entries g c =
    let laws = g.met.T.Tab in
    fits_are_entries g.T.Tab.codec c.args.tab (laws.number_ok.2 ∙ sym c.requires) laws.entry laws.entry_back (g.K.Keeper.seen c.args.keeper.now).kept c.in-Ok.fits c.in-Ok.ensures.fits
