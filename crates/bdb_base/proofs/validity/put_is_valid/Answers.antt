use Rattle.bdb_base.proofs.BaseLemmas.{put_is_valid}
use Rattle.bdb_base.proofs.validity.put_is_valid.Goals as goal

pub returns : goal.returns
returns c = put_is_valid
