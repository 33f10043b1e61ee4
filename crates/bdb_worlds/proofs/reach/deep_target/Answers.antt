use Rattle.bdb_tables.proofs.Held.{edges_fit}
use Rattle.bdb_worlds.proofs.reach.deep_target.Goals as goal

pub get_in-requires-clause-grammar : goal.get_in-requires-clause-grammar
get_in-requires-clause-grammar g c = edges_fit _ c.requires.grammar
