use Rattle.bdb_key.proofs.TabRows.{none_11}
use Rattle.bdb_key.proofs.row_take.mark_row.Goals as goal

pub returns-in-None-clause-none : goal.returns-in-None-clause-none
returns-in-None-clause-none c _ = none_11 c.args.bytes.now c.in-None.ensures
