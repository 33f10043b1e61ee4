use Rattle.bdb_worlds.proofs.leaving.drop_own.Goals as goal

pub returns-clause-grammar : goal.returns-clause-grammar
returns-clause-grammar g c = λ h. c.in_ok-_depth.ensures.grammar (c.in_ok-_turned.ensures.grammar (c.in_ok-_link.ensures.grammar h))
