use Rattle.bdb_tables.proofs.SignLemmas.{put_says_sign}
use Rattle.bdb_update.proofs.change_laws.put_says_sign.Goals as goal

pub returns : goal.returns
returns c = put_says_sign
