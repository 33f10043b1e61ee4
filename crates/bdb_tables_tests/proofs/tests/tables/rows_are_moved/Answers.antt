use Rattle.bdb_tables_tests.proofs.tests.tables.rows_are_moved.Goals as goal

pub rows_under-requires : goal.rows_under-requires
rows_under-requires g c = record { grammar = λ k r found. c.in_ok-cleared.ensures.grammar 11 k r found }

pub copy_rows-requires-clause-grammar : goal.copy_rows-requires-clause-grammar
copy_rows-requires-clause-grammar g c = c.in_ok-put-3.ensures.grammar (c.in_ok-put-2.ensures.grammar (c.in_ok-put.ensures.grammar c.requires.grammar))
