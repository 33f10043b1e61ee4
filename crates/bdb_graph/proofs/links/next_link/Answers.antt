use Rattle.bdb_graph.proofs.links.next_link.Goals as goal

pub next_under-requires-clause-grammar : goal.next_under-requires-clause-grammar
next_under-requires-clause-grammar g c = λ k r found. c.requires.grammar 7 k r found
