use Rattle.bdb_tables.proofs.Held.{remove_kept}
use Rattle.bdb_tables.proofs.access.drop_in.Goals as goal

pub returns-in-Ok-clause-grammar : goal.returns-in-Ok-clause-grammar
returns-in-Ok-clause-grammar g c = remove_kept _ _ _ c.in-Ok.ensures.kept
