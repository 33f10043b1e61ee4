use Rattle.bdb_update.proofs.OneStored.{stored_base_is_one}
use Rattle.bdb_update.proofs.stored_laws.stored_base_is_one.Goals as goal

pub returns : goal.returns
returns c = stored_base_is_one
