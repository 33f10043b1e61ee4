use Rattle.std.proofs.Common.{◌<◌, ◌^◌, length, sym, subst, arith}
use Rattle.bdb_tables.specs.Grammar.{InGrammar}
use Rattle.bdb_graph.proofs.EdgeLemmas.{edges_known, no_edges}
use Rattle.bdb_graph.proofs.edges.are_edges_held.Goals as goal

pub returns-in-Ok-false-clause-held : goal.returns-in-Ok-false-clause-held
returns-in-Ok-false-clause-held g c =
    let most = c.requires.users in
    let few : length c.args.users.now < 2 ^ 32 = omega arith in
    no_edges (g.K.Keeper.seen c.args.keeper.now).kept c.args.users.now c.args.worlds.now c.args.paths.now c.requires.worlds c.in-Ok-false.field-0 few c.in-Ok-false.field-0-test c.in-Ok-false.ensures.edges

pub returns-in-Ok-clause-held : goal.returns-in-Ok-clause-held
returns-in-Ok-clause-held g c =
    edges_known (g.K.Keeper.seen c.args.keeper.now).kept c.args.users.now c.args.worlds.now c.args.paths.now c.requires.worlds (g.K.Keeper.seen c.each_has_edges.new.keeper).kept c.in-Ok-true.field-0 c.in-Ok.are
    c.in-Ok-true.ensures.reading.kept (λ k r found. c.requires.grammar 9 k r found) c.in-Ok-true.field-0-test c.in-Ok-true.ensures.edges c.in-Ok.ensures.keys

pub are_edges_of_worlds-requires-clause-grammar : goal.are_edges_of_worlds-requires-clause-grammar
are_edges_of_worlds-requires-clause-grammar g c = subst InGrammar (sym c.in-Ok-true.ensures.reading.kept) c.requires.grammar
