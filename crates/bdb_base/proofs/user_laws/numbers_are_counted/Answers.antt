use Rattle.bdb_base.proofs.UserLemmas.{numbers_are_counted}
use Rattle.bdb_base.proofs.user_laws.numbers_are_counted.Goals as goal

pub returns : goal.returns
returns c = numbers_are_counted
