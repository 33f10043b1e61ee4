use Rattle.bdb_base.proofs.SetLemmas.{set_is_ascending}
use Rattle.bdb_base.proofs.ordered.set_is_ascending.Goals as goal

pub returns : goal.returns
returns g c = set_is_ascending g.met.X.Ordered.exact
