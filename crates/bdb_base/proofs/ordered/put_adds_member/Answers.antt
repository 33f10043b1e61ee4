use Rattle.bdb_base.proofs.SetLemmas.{put_adds_member}
use Rattle.bdb_base.proofs.ordered.put_adds_member.Goals as goal

pub returns : goal.returns
returns g c = put_adds_member g.met.X.Ordered.exact
