use Rattle.std.proofs.Common.{◌≡◌, ◌∙◌, true, false, not, is_some, [], ◌∷◌, rules}
use Rattle.bdb_base.specs.Bases.{is_user}
use Rattle.bdb_base.specs.Segments.{is_suffix}
use Rattle.bdb_graph.specs.Naming.{names_of}
use Rattle.bdb_graph.proofs.EdgeLemmas.{edge_leads, edge_missing, no_own_edge}
use Rattle.bdb_graph.proofs.edges.is_edge.Goals as goal

pub returns-then-path_is_suffix : goal.returns-then-path_is_suffix
returns-then-path_is_suffix c =
    let own : is_suffix (c.args.uid ∷ []) c.args.path.now ≡ true = search rules in
    let none : c.is_none.result ≡ not (is_some c.args.found) = search rules in
    no_own_edge (is_user c.args.users.now) (names_of c.args.worlds.now) c.args.uid c.args.path.now c.args.found c.is_none.result c.requires.user own none

pub returns-in_ok-path-in-Some : goal.returns-in_ok-path-in-Some
returns-in_ok-path-in-Some c =
    let apart : is_suffix (c.args.uid ∷ []) c.args.path.now ≡ false = search rules in
    edge_leads (is_user c.args.users.now) (names_of c.args.worlds.now) c.args.uid c.args.path.now c.deref.result.now c.args.found c.in-Some.wid c.leads_to.result c.requires.user apart c.in-Some.is
    (c.deref.ensures.value ∙ c.in_ok-path-in-Some.ensures) c.leads_to.ensures

pub returns-in-None : goal.returns-in-None
returns-in-None c =
    let apart : is_suffix (c.args.uid ∷ []) c.args.path.now ≡ false = search rules in
    edge_missing (is_user c.args.users.now) (names_of c.args.worlds.now) c.requires.worlds.names c.args.uid c.args.path.now c.args.found c.requires.user apart c.in-None.is
