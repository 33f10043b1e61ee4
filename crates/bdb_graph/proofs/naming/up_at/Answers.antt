use Rattle.bdb_graph.proofs.NamingLemmas.{up_found, up_missing}
use Rattle.bdb_graph.proofs.naming.up_at.Goals as goal

pub returns-in-Some : goal.returns-in-Some
returns-in-Some c = up_found c.args.ups.now c.in-Some.at c.args.wid _ c.requires c.in-Some.ensures

pub returns-in-None : goal.returns-in-None
returns-in-None c = up_missing c.args.ups.now c.args.wid c.in-None.ensures
