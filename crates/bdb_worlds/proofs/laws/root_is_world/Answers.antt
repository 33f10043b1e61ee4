use Rattle.bdb_worlds.proofs.RootLemmas.{root_is_world}
use Rattle.bdb_worlds.proofs.laws.root_is_world.Goals as goal

pub returns : goal.returns
returns c = root_is_world
