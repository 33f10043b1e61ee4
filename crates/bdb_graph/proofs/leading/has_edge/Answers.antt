use Rattle.bdb_graph.proofs.leading.has_edge.Goals as goal

pub get-requires-clause-grammar : goal.get-requires-clause-grammar
get-requires-clause-grammar g c = c.requires.grammar 9
