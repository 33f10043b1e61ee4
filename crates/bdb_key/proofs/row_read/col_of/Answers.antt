use Rattle.bdb_key.proofs.Readings.{col_none}
use Rattle.bdb_key.proofs.row_read.col_of.Goals as goal

pub returns-in-None-clause-none : goal.returns-in-None-clause-none
returns-in-None-clause-none c _ = col_none c.args.bytes.now c.in_ok-name.rest.now c.in_ok-name.name c.in_ok-name.ensures.ok c.in-None.ensures
