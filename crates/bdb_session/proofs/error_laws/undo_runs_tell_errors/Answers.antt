use Rattle.bdb_session.proofs.UndoErrorLemmas as lemmas
use Rattle.bdb_session.proofs.error_laws.undo_runs_tell_errors.Goals as goal

pub returns : goal.returns
returns c = lemmas.undo_runs_tell_errors
