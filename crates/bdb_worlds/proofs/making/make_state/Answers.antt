use Rattle.bdb_worlds.proofs.making.make_state.Goals as goal

pub returns-clause-grammar : goal.returns-clause-grammar
returns-clause-grammar g c = λ h. c.in_ok-put-3.ensures.grammar (c.in_ok-put-2.ensures.grammar (c.in_ok-put.ensures.grammar h))
