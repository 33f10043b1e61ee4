use Rattle.bdb_key.proofs.OneRow.{rows_have_one_spelling}
use Rattle.bdb_key.proofs.laws.rows_have_one_spelling.Goals as goal

pub returns : goal.returns
returns c = rows_have_one_spelling
