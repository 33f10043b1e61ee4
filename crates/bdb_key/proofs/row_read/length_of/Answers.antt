use Rattle.bdb_key.proofs.Readings.{length_none}
use Rattle.bdb_key.proofs.row_read.length_of.Goals as goal

pub returns-in-None : goal.returns-in-None
returns-in-None c = length_none c.args.bytes.now c.in-None.ensures
