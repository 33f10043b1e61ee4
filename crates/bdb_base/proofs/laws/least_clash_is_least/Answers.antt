use Rattle.bdb_base.proofs.LeastLemmas.{least_clash_is_least}
use Rattle.bdb_base.proofs.laws.least_clash_is_least.Goals as goal

pub returns : goal.returns
returns c = least_clash_is_least
