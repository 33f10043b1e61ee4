use Rattle.bdb_decode.proofs.FormerLemmas.{former_keys_have_one_column}
use Rattle.bdb_decode.proofs.laws.former_keys_have_one_column.Goals as goal

pub returns : goal.returns
returns c = former_keys_have_one_column
