use Rattle.bdb_base.proofs.UpdateLemmas.{delete_is_valid}
use Rattle.bdb_base.proofs.update_laws.delete_is_valid.Goals as goal

pub returns : goal.returns
returns c = delete_is_valid
