use Rattle.bdb_tables.proofs.Held.{depths_fit}
use Rattle.bdb_worlds.proofs.staying.has_depth.Goals as goal

pub get_in-requires-clause-grammar : goal.get_in-requires-clause-grammar
get_in-requires-clause-grammar g c = depths_fit _ c.requires.grammar
