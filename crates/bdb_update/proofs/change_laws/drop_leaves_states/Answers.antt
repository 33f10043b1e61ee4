use Rattle.bdb_update.proofs.WithinLemmas.{drop_leaves_states}
use Rattle.bdb_update.proofs.change_laws.drop_leaves_states.Goals as goal

pub returns : goal.returns
returns c = drop_leaves_states
