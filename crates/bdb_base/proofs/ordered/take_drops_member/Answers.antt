use Rattle.bdb_base.proofs.SetLemmas.{take_drops_member}
use Rattle.bdb_base.proofs.ordered.take_drops_member.Goals as goal

pub returns : goal.returns
returns g c = take_drops_member g.met.X.Ordered.exact
