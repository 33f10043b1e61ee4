use Rattle.std.proofs.Common.{◌<◌, length, arith}
use Rattle.bdb_graph.specs.Naming.{names_of}
use Rattle.bdb_graph.proofs.LinkLemmas.{link_missing}
use Rattle.bdb_graph.proofs.links.is_link.Goals as goal

pub returns-in-None : goal.returns-in-None
returns-in-None c =
    let some : 0 < length c.args.path.now = omega (arith, c.in-len1-up.len_at_least) in
    link_missing (names_of c.args.worlds.now) c.requires.names c.args.path.now c.args.found some c.in-None.is
