use Rattle.bdb_session.proofs.UndoErrorLemmas as lemmas
use Rattle.bdb_session.proofs.error_laws.timelines_stay_valid.Goals as goal

pub returns : goal.returns
returns c = lemmas.timelines_stay_valid
