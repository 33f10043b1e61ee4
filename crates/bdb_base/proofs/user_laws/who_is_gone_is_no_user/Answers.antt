use Rattle.bdb_base.proofs.UserLemmas.{who_is_gone_is_no_user}
use Rattle.bdb_base.proofs.user_laws.who_is_gone_is_no_user.Goals as goal

pub returns : goal.returns
returns c = who_is_gone_is_no_user
