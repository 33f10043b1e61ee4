use Rattle.bdb_base.proofs.UpdateLemmas.{update_is_valid}
use Rattle.bdb_base.proofs.update_laws.update_is_valid.Goals as goal

pub returns : goal.returns
returns c = update_is_valid
