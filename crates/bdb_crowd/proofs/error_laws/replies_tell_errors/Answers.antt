use Rattle.bdb_crowd.proofs.TellLemmas as lemmas
use Rattle.bdb_crowd.proofs.error_laws.replies_tell_errors.Goals as goal

pub returns : goal.returns
returns c = lemmas.replies_tell_errors
