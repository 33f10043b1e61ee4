use Rattle.bdb_base.proofs.SetLemmas.{set_keeps_members}
use Rattle.bdb_base.proofs.ordered.set_keeps_members.Goals as goal

pub returns : goal.returns
returns g c = set_keeps_members g.met.X.Ordered.exact
