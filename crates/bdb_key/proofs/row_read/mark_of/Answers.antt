use Rattle.bdb_key.proofs.Marks.{mark_none}
use Rattle.bdb_key.proofs.row_read.mark_of.Goals as goal

pub returns-in-None : goal.returns-in-None
returns-in-None c = mark_none c.args.bytes.now c.in-None.ensures
