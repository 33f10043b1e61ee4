use Rattle.bdb_decode.proofs.FormerLemmas.{former_users_are_live}
use Rattle.bdb_decode.proofs.laws.former_users_are_live.Goals as goal

pub returns : goal.returns
returns c = former_users_are_live
