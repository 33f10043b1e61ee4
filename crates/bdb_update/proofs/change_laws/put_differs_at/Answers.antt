use Rattle.bdb_update.proofs.DifferLemmas.{put_differs_at}
use Rattle.bdb_update.proofs.change_laws.put_differs_at.Goals as goal

pub returns : goal.returns
returns c = put_differs_at
