use Rattle.bdb_update.proofs.WithinLemmas.{drop_is_within}
use Rattle.bdb_update.proofs.change_laws.drop_is_within.Goals as goal

pub returns : goal.returns
returns c = drop_is_within
