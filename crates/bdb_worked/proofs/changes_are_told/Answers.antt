use Rattle.bdb_worked.proofs.Computed as computed
use Rattle.bdb_worked.proofs.changes_are_told.Goals as goal

pub returns : goal.returns
returns c = computed.changes_are_told
