use Rattle.std.proofs.Common.{◌∙◌, ap}
use Rattle.bdb_graph.specs.Naming.{names_of}
use Rattle.bdb_graph.specs.States.{is_right, link_from}
use Rattle.bdb_graph.proofs.LinkLemmas.{link_told}
use Rattle.bdb_graph.proofs.links.has_link.Goals as goal

pub get-requires-clause-grammar : goal.get-requires-clause-grammar
get-requires-clause-grammar g c = λ k r found. c.requires.grammar 7 k r found

pub returns-in-Ok-clause-link : goal.returns-in-Ok-clause-link
returns-in-Ok-clause-link g c =
    let ws = c.args.worlds.now in
    link_told (g.K.Keeper.seen c.args.keeper.now).kept ws c.requires.worlds.names c.args.world.now c.requires.world c.in-Ok.found c.is_link.result c.in-Ok.ensures.found
    (c.is_link.ensures ∙ ap (λ w. is_right c.in-Ok.found (link_from (names_of ws) w)) c.as_slice.ensures.users)
