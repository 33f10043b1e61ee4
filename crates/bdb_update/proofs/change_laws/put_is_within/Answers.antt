use Rattle.bdb_update.proofs.WithinLemmas.{put_is_within}
use Rattle.bdb_update.proofs.change_laws.put_is_within.Goals as goal

pub returns : goal.returns
returns c = put_is_within
