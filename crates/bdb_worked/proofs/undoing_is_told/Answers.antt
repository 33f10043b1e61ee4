use Rattle.bdb_worked.proofs.Computed as computed
use Rattle.bdb_worked.proofs.undoing_is_told.Goals as goal

pub returns : goal.returns
returns c = computed.undoing_is_told
