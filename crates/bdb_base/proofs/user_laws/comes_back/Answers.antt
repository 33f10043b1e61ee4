use Rattle.bdb_base.proofs.UserLemmas.{comes_back}
use Rattle.bdb_base.proofs.user_laws.comes_back.Goals as goal

pub returns : goal.returns
returns c = comes_back
