use Rattle.std.proofs.Common.{Some}
use Rattle.bdb_memory.proofs.StoreLemmas.{rows_of-updates, KeepsPlaces-updates}
use Rattle.bdb_memory.proofs.changes.swap_row.Goals as goal

pub returns-in-Ok-clause-rows : goal.returns-in-Ok-clause-rows
returns-in-Ok-clause-rows c = rows_of-updates c.args.rows.now c.swap.new.self c.args.probe.now (Some c.args.row) c.in-Ok.ensures.set

pub returns-in-Ok-clause-keeps : goal.returns-in-Ok-clause-keeps
returns-in-Ok-clause-keeps c = KeepsPlaces-updates c.args.rows.now c.swap.new.self c.args.probe.now c.args.row c.in-Ok.ensures.set
