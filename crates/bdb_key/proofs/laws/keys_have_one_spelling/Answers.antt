use Rattle.bdb_key.proofs.Keys.{keys_have_one_spelling}
use Rattle.bdb_key.proofs.laws.keys_have_one_spelling.Goals as goal

pub returns : goal.returns
returns c = keys_have_one_spelling
