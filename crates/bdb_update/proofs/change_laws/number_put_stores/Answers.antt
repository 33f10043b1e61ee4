use Rattle.bdb_update.proofs.NumberLemmas.{number_put_stores}
use Rattle.bdb_update.proofs.change_laws.number_put_stores.Goals as goal

pub returns : goal.returns
returns c = number_put_stores
