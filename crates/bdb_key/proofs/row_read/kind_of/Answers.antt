use Rattle.bdb_key.proofs.Readings.{kind_none}
use Rattle.bdb_key.proofs.row_read.kind_of.Goals as goal

pub returns-in-None : goal.returns-in-None
returns-in-None c = kind_none c.args.bytes.now c.in-None.ensures
