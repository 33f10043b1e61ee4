use Rattle.bdb_base.proofs.SetLemmas.{loop_makes_set}
use Rattle.bdb_base.proofs.ordered.loop_makes_set.Goals as goal

pub returns : goal.returns
returns g c = loop_makes_set g.met.X.Ordered.exact
