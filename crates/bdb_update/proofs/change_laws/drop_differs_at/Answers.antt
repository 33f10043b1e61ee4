use Rattle.bdb_update.proofs.DifferLemmas.{drop_differs_at}
use Rattle.bdb_update.proofs.change_laws.drop_differs_at.Goals as goal

pub returns : goal.returns
returns c = drop_differs_at
