use Rattle.bdb_session.proofs.OpenLemmas.{still_steps, steps_still}
use Rattle.bdb_session.proofs.open.read_session.Goals as goal

pub returns-in-Ok-clause-unchanged : goal.returns-in-Ok-clause-unchanged
returns-in-Ok-clause-unchanged g c = still_steps _ _ _ _ c.requires.still c.session_of.ensures.kept c.session_of.ensures.steps

pub returns-in-Ok-clause-still : goal.returns-in-Ok-clause-still
returns-in-Ok-clause-still g c = steps_still _ _ _ _ c.requires.still c.session_of.ensures.kept c.session_of.ensures.steps

pub returns-in-Err-clause-unchanged : goal.returns-in-Err-clause-unchanged
returns-in-Err-clause-unchanged g c = still_steps _ _ _ _ c.requires.still c.session_of.ensures.kept c.session_of.ensures.steps

pub returns-in-Err-clause-still : goal.returns-in-Err-clause-still
returns-in-Err-clause-still g c = steps_still _ _ _ _ c.requires.still c.session_of.ensures.kept c.session_of.ensures.steps
