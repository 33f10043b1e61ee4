use Rattle.bdb_base.proofs.BaseLemmas.{put_counts_tuple}
use Rattle.bdb_base.proofs.validity.put_counts_tuple.Goals as goal

pub returns : goal.returns
returns c = put_counts_tuple
