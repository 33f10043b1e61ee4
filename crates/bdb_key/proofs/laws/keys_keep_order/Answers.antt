use Rattle.bdb_key.proofs.Keys.{keys_keep_order}
use Rattle.bdb_key.proofs.laws.keys_keep_order.Goals as goal

pub returns : goal.returns
returns c = keys_keep_order
