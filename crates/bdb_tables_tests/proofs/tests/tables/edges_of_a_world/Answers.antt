use Rattle.bdb_tables_tests.proofs.tests.tables.edges_of_a_world.Goals as goal

pub rows_under-requires : goal.rows_under-requires
rows_under-requires g c = record { grammar = λ k r found. c.in_ok-write_rows.ensures.grammar c.requires.grammar 9 k r found }
