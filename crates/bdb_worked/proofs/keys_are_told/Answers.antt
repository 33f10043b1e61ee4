use Rattle.bdb_worked.proofs.Computed as computed
use Rattle.bdb_worked.proofs.keys_are_told.Goals as goal

pub returns : goal.returns
returns c = computed.keys_are_told
