use Rattle.bdb_update.proofs.StoreLemmas.{put_stores_relation}
use Rattle.bdb_update.proofs.stored_laws.put_stores_relation.Goals as goal

pub returns : goal.returns
returns c = put_stores_relation
