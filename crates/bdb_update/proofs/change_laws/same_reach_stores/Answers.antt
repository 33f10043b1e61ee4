use Rattle.bdb_update.proofs.WithinLemmas.{same_reach_stores}
use Rattle.bdb_update.proofs.change_laws.same_reach_stores.Goals as goal

pub returns : goal.returns
returns c = same_reach_stores
