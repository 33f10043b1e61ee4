use Rattle.bdb_update.proofs.ReachLemmas.{other_worlds_store}
use Rattle.bdb_update.proofs.change_laws.other_worlds_store.Goals as goal

pub returns : goal.returns
returns c = other_worlds_store
