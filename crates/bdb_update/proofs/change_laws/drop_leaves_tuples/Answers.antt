use Rattle.bdb_update.proofs.NumberLemmas.{drop_leaves_tuples}
use Rattle.bdb_update.proofs.change_laws.drop_leaves_tuples.Goals as goal

pub returns : goal.returns
returns c = drop_leaves_tuples
