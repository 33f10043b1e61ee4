use Rattle.bdb_crowd.proofs.TellLemmas as lemmas
use Rattle.bdb_crowd.proofs.error_laws.streams_tell_errors.Goals as goal

pub returns : goal.returns
returns c = lemmas.streams_tell_errors
