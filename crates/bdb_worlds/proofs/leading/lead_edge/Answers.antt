use Rattle.bdb_worlds.proofs.leading.lead_edge.Goals as goal

pub returns-clause-grammar : goal.returns-clause-grammar
returns-clause-grammar g c = λ h. c.in_ok-put_in-2.ensures.grammar (c.in_ok-_gone.ensures.grammar (c.in_ok-put_in.ensures.grammar h))
