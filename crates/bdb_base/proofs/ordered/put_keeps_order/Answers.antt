use Rattle.bdb_base.proofs.SetLemmas.{put_keeps_order}
use Rattle.bdb_base.proofs.ordered.put_keeps_order.Goals as goal

pub returns : goal.returns
returns g c = put_keeps_order g.met.X.Ordered.exact
