use Rattle.bdb_key.proofs.TabRows.{none_7, none_9}
use Rattle.bdb_key.proofs.row_take.link_row.Goals as goal

pub returns-in-None-clause-no_link : goal.returns-in-None-clause-no_link
returns-in-None-clause-no_link c _ = none_7 c.args.bytes.now c.in-None.ensures

pub returns-in-None-clause-no_edge : goal.returns-in-None-clause-no_edge
returns-in-None-clause-no_edge c _ = none_9 c.args.bytes.now c.in-None.ensures
