use Rattle.bdb_base.proofs.UserLemmas.{others_keep_names}
use Rattle.bdb_base.proofs.user_laws.others_keep_names.Goals as goal

pub returns : goal.returns
returns c = others_keep_names
