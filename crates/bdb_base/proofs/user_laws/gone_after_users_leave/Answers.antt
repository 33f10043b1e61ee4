use Rattle.bdb_base.proofs.UserLemmas.{gone_after_users_leave}
use Rattle.bdb_base.proofs.user_laws.gone_after_users_leave.Goals as goal

pub returns : goal.returns
returns c = gone_after_users_leave
