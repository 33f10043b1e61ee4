use Rattle.bdb_key.proofs.TabRows.{none_5}
use Rattle.bdb_key.proofs.row_take.tid_row.Goals as goal

pub returns-in-None-clause-none : goal.returns-in-None-clause-none
returns-in-None-clause-none c _ = none_5 c.args.bytes.now c.in-None.ensures
