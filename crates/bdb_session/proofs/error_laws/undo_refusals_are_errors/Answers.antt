use Rattle.bdb_session.proofs.UndoErrorLemmas as lemmas
use Rattle.bdb_session.proofs.error_laws.undo_refusals_are_errors.Goals as goal

pub returns : goal.returns
returns c = lemmas.undo_refusals_are_errors
