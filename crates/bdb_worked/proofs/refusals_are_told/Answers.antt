use Rattle.bdb_worked.proofs.Computed as computed
use Rattle.bdb_worked.proofs.refusals_are_told.Goals as goal

pub returns : goal.returns
returns c = computed.refusals_are_told
