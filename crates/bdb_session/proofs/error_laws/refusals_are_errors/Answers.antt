use Rattle.bdb_session.proofs.ErrorLemmas as lemmas
use Rattle.bdb_session.proofs.error_laws.refusals_are_errors.Goals as goal

pub returns : goal.returns
returns c = lemmas.refusals_are_errors
