use Rattle.bdb_update.proofs.ReachLemmas.{plain_world_inherits}
use Rattle.bdb_update.proofs.change_laws.plain_world_inherits.Goals as goal

pub returns : goal.returns
returns c = plain_world_inherits
