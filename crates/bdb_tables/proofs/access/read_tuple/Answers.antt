use Rattle.bdb_tables.proofs.access.read_tuple.Goals as goal

pub get-requires-clause-grammar : goal.get-requires-clause-grammar
get-requires-clause-grammar g c = λ k r found. c.requires.grammar 4 k r found
