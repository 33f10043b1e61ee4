use Rattle.bdb_worlds.proofs.taking.write_taken.Goals as goal

pub returns-clause-grammar : goal.returns-clause-grammar
returns-clause-grammar g c = λ h. c.in_ok-make_state.ensures.grammar (c.in_ok-make_edges.ensures.grammar (c.in_ok-lead_links.ensures.grammar (c.in_ok-lead_edges.ensures.grammar h)))
