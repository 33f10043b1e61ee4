use Rattle.bdb_crowd.proofs.acts.tell.Goals as goal

pub returns-in-Err-clause-told : goal.returns-in-Err-clause-told
returns-in-Err-clause-told g c = (c.in-Err.ensures.written.0, c.in-Err.ensures.written.2)
