use Rattle.bdb_graph.proofs.FindingLemmas.{leads_found, leads_nowhere, root_is_member}
use Rattle.bdb_graph.proofs.finding.leads_to.Goals as goal

pub deepest_suffix_in_set-target-requires-clause-root : goal.deepest_suffix_in_set-target-requires-clause-root
deepest_suffix_in_set-target-requires-clause-root c = root_is_member c.args.worlds.now c.args.paths.now c.requires

pub returns-in-Some : goal.returns-in-Some
returns-in-Some c =
    leads_found c.args.worlds.now c.args.paths.now c.requires c.args.users.now c.args.wid c.in-Some.at c.deepest_suffix_in_set-target.result c.index-worlds-at.result c.index-paths-target.result c.has_path.result
    c.in-Some.ensures c.index-worlds-at.is c.deepest_suffix_in_set-target.ensures.suffix c.index-paths-target.is c.has_path.ensures

pub returns-in-None : goal.returns-in-None
returns-in-None c = leads_nowhere c.args.worlds.now c.args.paths.now c.requires c.args.users.now c.args.wid c.in-None.ensures
