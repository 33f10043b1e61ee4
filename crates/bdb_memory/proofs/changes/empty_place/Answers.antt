use Rattle.std.proofs.Common.{Some, None}
use Rattle.bdb_memory.proofs.StoreLemmas.{row_of-place, rows_of-absent, rows_of-empty, place-stays}
use Rattle.bdb_memory.proofs.changes.empty_place.Goals as goal

pub returns-in-Ok-clause-row : goal.returns-in-Ok-clause-row
returns-in-Ok-clause-row c = row_of-place c.args.rows.now c.args.probe.now (Some c.in-Ok.before) c.in-Ok.ensures.found

pub returns-in-Ok-clause-here : goal.returns-in-Ok-clause-here
returns-in-Ok-clause-here c = place-stays c.args.rows.now _ c.args.probe.now c.in-Ok.before c.in-Ok.ensures.found c.swap_row.ensures.keeps

pub returns-in-Ok-clause-same : goal.returns-in-Ok-clause-same
returns-in-Ok-clause-same c = rows_of-empty c.args.rows.now _ c.args.probe.now c.in-Ok.before c.in-Ok.ensures.found c.in-Ok.ensures.rows

pub returns-clause-row : goal.returns-clause-row
returns-clause-row c = row_of-place c.args.rows.now c.args.probe.now None c.in-Err.ensures.absent

pub returns-clause-rows : goal.returns-clause-rows
returns-clause-rows c = rows_of-absent c.args.rows.now c.swap_row.new.rows c.args.probe.now c.in-Err.ensures.absent c.in-Err.ensures.same
