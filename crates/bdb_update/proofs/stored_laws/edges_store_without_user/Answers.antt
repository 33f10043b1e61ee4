use Rattle.bdb_update.proofs.StoreLemmas.{edges_store_without_user}
use Rattle.bdb_update.proofs.stored_laws.edges_store_without_user.Goals as goal

pub returns : goal.returns
returns c = edges_store_without_user
