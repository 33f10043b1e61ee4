use Rattle.bdb_worked.proofs.Computed as computed
use Rattle.bdb_worked.proofs.structure_is_told.Goals as goal

pub returns : goal.returns
returns c = computed.structure_is_told
