use Rattle.bdb_update.proofs.ReachLemmas.{world_comes_with_rows}
use Rattle.bdb_update.proofs.change_laws.world_comes_with_rows.Goals as goal

pub returns : goal.returns
returns c = world_comes_with_rows
