use Rattle.bdb_names.proofs.NamedLemmas.{names_are_one}
use Rattle.bdb_worlds.proofs.laws.names_are_one.Goals as goal

pub returns : goal.returns
returns c = names_are_one
