use Rattle.bdb_graph.proofs.edges.next_edge.Goals as goal

pub next_under-requires-clause-grammar : goal.next_under-requires-clause-grammar
next_under-requires-clause-grammar g c = λ k r found. c.requires.grammar 9 k r found
