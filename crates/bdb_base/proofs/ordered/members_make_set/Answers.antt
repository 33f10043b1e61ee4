use Rattle.bdb_base.proofs.SetLemmas.{members_make_set}
use Rattle.bdb_base.proofs.ordered.members_make_set.Goals as goal

pub returns : goal.returns
returns g c = members_make_set g.met.X.Ordered.exact
