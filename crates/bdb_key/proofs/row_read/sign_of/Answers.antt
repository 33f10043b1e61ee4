use Rattle.bdb_key.proofs.Readings.{sign_none}
use Rattle.bdb_key.proofs.row_read.sign_of.Goals as goal

pub returns-in-None : goal.returns-in-None
returns-in-None c = sign_none c.args.bytes.now c.in-None.ensures
