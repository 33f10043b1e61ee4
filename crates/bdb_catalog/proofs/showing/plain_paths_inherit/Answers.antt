use Rattle.bdb_catalog.proofs.ShowingLemmas.{plain_paths_inherit}
use Rattle.bdb_catalog.proofs.showing.plain_paths_inherit.Goals as goal

pub returns : goal.returns
returns c = plain_paths_inherit
