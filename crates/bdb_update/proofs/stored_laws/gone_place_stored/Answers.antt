use Rattle.bdb_update.proofs.StoreLemmas.{gone_place_stored}
use Rattle.bdb_update.proofs.stored_laws.gone_place_stored.Goals as goal

pub returns : goal.returns
returns c = gone_place_stored
