use Rattle.bdb_val.proofs.links.read_links.Goals as goal

pub rows_under-requires : goal.rows_under-requires
rows_under-requires g c = record { grammar = λ k r found. c.requires.grammar 8 k r found }
