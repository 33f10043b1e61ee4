use Rattle.bdb_base.proofs.UserLemmas.{states_name_others}
use Rattle.bdb_base.proofs.user_laws.states_name_others.Goals as goal

pub returns : goal.returns
returns c = states_name_others
