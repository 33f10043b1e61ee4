-- How many worlds statements have.
use Rattle.bdb_paths.specs.PathLaws.{StatesAreCounted}
use Rattle.bdb_paths.proofs.StateLemmas.{states_are_counted}

pub few_worlds : StatesAreCounted
few_worlds = states_are_counted
