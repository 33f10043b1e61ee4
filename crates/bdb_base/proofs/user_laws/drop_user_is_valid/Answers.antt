use Rattle.bdb_base.proofs.UserLemmas.{drop_user_is_valid}
use Rattle.bdb_base.proofs.user_laws.drop_user_is_valid.Goals as goal

pub returns : goal.returns
returns c = drop_user_is_valid
