use Rattle.bdb_base.proofs.UserLemmas.{who_leaves_is_gone}
use Rattle.bdb_base.proofs.user_laws.who_leaves_is_gone.Goals as goal

pub returns : goal.returns
returns c = who_leaves_is_gone
