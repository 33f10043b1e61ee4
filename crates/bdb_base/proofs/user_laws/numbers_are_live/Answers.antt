use Rattle.bdb_base.proofs.UserLemmas.{numbers_are_live}
use Rattle.bdb_base.proofs.user_laws.numbers_are_live.Goals as goal

pub returns : goal.returns
returns c = numbers_are_live
