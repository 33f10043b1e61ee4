use Rattle.bdb_graph.proofs.HeldLemmas.{worlds_are_held}
use Rattle.bdb_graph.proofs.laws.worlds_are_held.Goals as goal

pub returns : goal.returns
returns c = worlds_are_held
