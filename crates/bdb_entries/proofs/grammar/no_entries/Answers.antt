use Rattle.bdb_entries.proofs.FormatLemmas.{bare_are_entries}
use Rattle.bdb_entries.proofs.grammar.no_entries.Goals as goal

pub returns-in-Ok-clause-entries : goal.returns-in-Ok-clause-entries
returns-in-Ok-clause-entries g c = bare_are_entries (g.K.Keeper.seen c.args.keeper.now).kept c.args.tab c.requires.table.0 c.in-Ok.bare c.in-Ok.ensures.bare
