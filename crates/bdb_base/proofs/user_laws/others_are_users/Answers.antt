use Rattle.bdb_base.proofs.UserLemmas.{others_are_users}
use Rattle.bdb_base.proofs.user_laws.others_are_users.Goals as goal

pub returns : goal.returns
returns c = others_are_users
