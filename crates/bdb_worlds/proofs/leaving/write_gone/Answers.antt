use Rattle.bdb_worlds.proofs.leaving.write_gone.Goals as goal

pub returns-clause-grammar : goal.returns-clause-grammar
returns-clause-grammar g c = λ h. c.in_ok-drop_own.ensures.grammar (c.in_ok-drop_edges.ensures.grammar (c.in_ok-lead_kids.ensures.grammar (c.in_ok-lead_pairs.ensures.grammar h)))
