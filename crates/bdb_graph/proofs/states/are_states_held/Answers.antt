use Rattle.bdb_graph.proofs.StatesLemmas.{indexed}
use Rattle.bdb_graph.proofs.states.are_states_held.Goals as goal

pub are_held-requires-clause-found : goal.are_held-requires-clause-found
are_held-requires-clause-found g c =
    indexed (g.K.Keeper.seen c.args.keeper.now).kept c.args.worlds.now c.requires.worlds c.in-Ok.paths c.as_slice.result.now c.in-Ok.ensures c.as_slice.ensures
