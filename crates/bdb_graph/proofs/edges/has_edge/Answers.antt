use Rattle.std.proofs.Common.{◌∙◌, ap}
use Rattle.bdb_base.specs.Bases.{is_user}
use Rattle.bdb_tables.specs.Names.{edge_from}
use Rattle.bdb_graph.specs.Naming.{names_of}
use Rattle.bdb_graph.specs.States.{is_right}
use Rattle.bdb_graph.proofs.EdgeLemmas.{edge_told}
use Rattle.bdb_graph.proofs.edges.has_edge.Goals as goal

pub get-requires-clause-grammar : goal.get-requires-clause-grammar
get-requires-clause-grammar g c = λ k r found. c.requires.grammar 9 k r found

pub returns-in-Ok-is_edge-clause-edge : goal.returns-in-Ok-is_edge-clause-edge
returns-in-Ok-is_edge-clause-edge g c =
    let ws = c.args.worlds.now in
    let users = is_user c.args.users.now in
    edge_told (g.K.Keeper.seen c.args.keeper.now).kept users ws c.requires.worlds.names c.args.world.now c.args.uid c.requires.world c.in-Ok.found c.in-Ok-is_edge.right c.in-Ok.ensures.found
    (c.in-Ok-is_edge.ensures ∙ ap (λ w. is_right c.in-Ok.found (edge_from users (names_of ws) c.args.uid w)) c.as_slice.ensures.users)
