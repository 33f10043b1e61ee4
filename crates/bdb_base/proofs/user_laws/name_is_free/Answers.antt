use Rattle.bdb_base.proofs.UserLemmas.{name_is_free}
use Rattle.bdb_base.proofs.user_laws.name_is_free.Goals as goal

pub returns : goal.returns
returns c = name_is_free
