use Rattle.bdb_update.proofs.EmptyLemmas.{two_rows_store_empty}
use Rattle.bdb_update.proofs.stored_laws.two_rows_store_empty.Goals as goal

pub returns : goal.returns
returns c = two_rows_store_empty
