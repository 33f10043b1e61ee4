use Rattle.bdb_session.proofs.session.Session.tell_done.Goals as goal

pub returns : goal.returns
returns g c = λ s. c.say.ensures s _ c.ok_reply-text.ensures
