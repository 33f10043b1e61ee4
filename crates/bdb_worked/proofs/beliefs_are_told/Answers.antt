use Rattle.bdb_worked.proofs.Computed as computed
use Rattle.bdb_worked.proofs.beliefs_are_told.Goals as goal

pub returns : goal.returns
returns c = computed.beliefs_are_told
