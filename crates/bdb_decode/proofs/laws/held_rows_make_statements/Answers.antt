use Rattle.bdb_decode.proofs.HeldRowLemmas.{held_rows_make_statements}
use Rattle.bdb_decode.proofs.laws.held_rows_make_statements.Goals as goal

pub returns : goal.returns
returns c = held_rows_make_statements
