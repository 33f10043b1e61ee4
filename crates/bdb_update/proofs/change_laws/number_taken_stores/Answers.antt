use Rattle.bdb_update.proofs.NumberLemmas.{number_taken_stores}
use Rattle.bdb_update.proofs.change_laws.number_taken_stores.Goals as goal

pub returns : goal.returns
returns c = number_taken_stores
