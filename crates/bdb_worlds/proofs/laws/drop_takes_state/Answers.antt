use Rattle.bdb_worlds.proofs.GoneLemmas.{drop_takes_state}
use Rattle.bdb_worlds.proofs.laws.drop_takes_state.Goals as goal

pub returns : goal.returns
returns c = drop_takes_state
