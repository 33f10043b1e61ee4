use Rattle.bdb_key.proofs.TabRows.{none_6}
use Rattle.bdb_key.proofs.row_take.depth_row.Goals as goal

pub returns-in-None-clause-none : goal.returns-in-None-clause-none
returns-in-None-clause-none c _ = none_6 c.args.bytes.now c.in-None.ensures
