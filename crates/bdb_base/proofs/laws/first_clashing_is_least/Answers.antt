use Rattle.bdb_base.proofs.FirstLemmas.{first_clashing_is_least}
use Rattle.bdb_base.proofs.laws.first_clashing_is_least.Goals as goal

pub returns : goal.returns
returns c = first_clashing_is_least
