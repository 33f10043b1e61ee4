use Rattle.bdb_base.proofs.BaseLemmas.{add_user_is_valid}
use Rattle.bdb_base.proofs.validity.add_user_is_valid.Goals as goal

pub returns : goal.returns
returns c = add_user_is_valid
