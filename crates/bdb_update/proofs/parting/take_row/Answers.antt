use Rattle.bdb_tables.proofs.Held.{remove_kept}
use Rattle.bdb_update.proofs.parting.take_row.Goals as goal

pub returns-in-Ok-remove-clause-grammar : goal.returns-in-Ok-remove-clause-grammar
returns-in-Ok-remove-clause-grammar g c = remove_kept _ _ _ c.in-Ok-remove.ensures.kept
