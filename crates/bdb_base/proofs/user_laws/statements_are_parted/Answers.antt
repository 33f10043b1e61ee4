use Rattle.bdb_base.proofs.UserLemmas.{statements_are_parted}
use Rattle.bdb_base.proofs.user_laws.statements_are_parted.Goals as goal

pub returns : goal.returns
returns c = statements_are_parted
