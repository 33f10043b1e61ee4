use Rattle.bdb_session.proofs.ErrorValid as lemmas
use Rattle.bdb_session.proofs.error_laws.bases_stay_valid.Goals as goal

pub returns : goal.returns
returns c = lemmas.bases_stay_valid
