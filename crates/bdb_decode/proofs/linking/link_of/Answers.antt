use Rattle.bdb_decode.proofs.linking.link_of.Goals as goal

pub get-requires-clause-grammar : goal.get-requires-clause-grammar
get-requires-clause-grammar g c = λ k r found. c.requires.grammar 7 k r found
