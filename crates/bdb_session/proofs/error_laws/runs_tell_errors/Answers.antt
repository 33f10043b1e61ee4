use Rattle.bdb_session.proofs.ErrorLemmas as lemmas
use Rattle.bdb_session.proofs.error_laws.runs_tell_errors.Goals as goal

pub returns : goal.returns
returns c = lemmas.runs_tell_errors
