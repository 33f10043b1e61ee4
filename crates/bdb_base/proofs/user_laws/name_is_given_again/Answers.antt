use Rattle.bdb_base.proofs.UserLemmas.{name_is_given_again}
use Rattle.bdb_base.proofs.user_laws.name_is_given_again.Goals as goal

pub returns : goal.returns
returns c = name_is_given_again
