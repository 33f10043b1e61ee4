use Rattle.bdb_base.proofs.SetLemmas.{take_keeps_order}
use Rattle.bdb_base.proofs.ordered.take_keeps_order.Goals as goal

pub returns : goal.returns
returns g c = take_keeps_order g.met.X.Ordered.exact
