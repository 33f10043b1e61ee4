use Rattle.bdb_update.proofs.GroupLemmas.{settled_group_stores}
use Rattle.bdb_update.proofs.change_laws.settled_group_stores.Goals as goal

pub returns : goal.returns
returns c = settled_group_stores
