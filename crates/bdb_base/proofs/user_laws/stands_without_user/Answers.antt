use Rattle.bdb_base.proofs.UserLemmas.{stands_without_user}
use Rattle.bdb_base.proofs.user_laws.stands_without_user.Goals as goal

pub returns : goal.returns
returns c = stands_without_user
