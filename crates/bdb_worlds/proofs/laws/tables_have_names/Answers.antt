use Rattle.bdb_names.proofs.NamedLemmas.{tables_have_names}
use Rattle.bdb_worlds.proofs.laws.tables_have_names.Goals as goal

pub returns : goal.returns
returns c = tables_have_names
