use Rattle.bdb_tables.proofs.SignLemmas.{drop_says_none}
use Rattle.bdb_update.proofs.change_laws.drop_says_none.Goals as goal

pub returns : goal.returns
returns c = drop_says_none
