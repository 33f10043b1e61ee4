use Rattle.bdb_session.proofs.session.Session.tell_count.Goals as goal

pub returns : goal.returns
returns g c = λ s. c.say.ensures s _ c.count_reply-text.ensures
