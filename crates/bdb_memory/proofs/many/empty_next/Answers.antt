use Rattle.std.proofs.Common.{◌≡◌, Some, None}
use Rattle.bdb_memory.specs.Entries.{IsSetAt, place_at}
use Rattle.bdb_memory.proofs.StoreLemmas.{row_of-place, rows_of-updates, rows_of-empty, place-stays, KeepsPlaces-updates}
use Rattle.bdb_memory.proofs.many.empty_next.Goals as goal
use Rattle.bdb_memory.proofs.many.empty_next.Goals.{In-Some}

found : (c : In-Some) → place_at c.args.rows.now c.args.probe.now ≡ Some c.in-Some.before
found c = c.in-Some.ensures.found

set : (c : In-Some) → IsSetAt c.args.rows.now c.empty_behind.new.self c.args.probe.now (Some None)
set c = c.in-Some.ensures.set

pub returns-in-Some-clause-row : goal.returns-in-Some-clause-row
returns-in-Some-clause-row c = row_of-place c.args.rows.now c.args.probe.now (Some c.in-Some.before) (found c)

pub returns-in-Some-clause-rows : goal.returns-in-Some-clause-rows
returns-in-Some-clause-rows c = rows_of-updates c.args.rows.now c.empty_behind.new.self c.args.probe.now (Some None) (set c)

pub returns-in-Some-clause-keeps : goal.returns-in-Some-clause-keeps
returns-in-Some-clause-keeps c = KeepsPlaces-updates c.args.rows.now c.empty_behind.new.self c.args.probe.now None (set c)

pub returns-in-Some-clause-here : goal.returns-in-Some-clause-here
returns-in-Some-clause-here c =
    place-stays c.args.rows.now c.empty_behind.new.self c.args.probe.now c.in-Some.before (found c) (KeepsPlaces-updates c.args.rows.now c.empty_behind.new.self c.args.probe.now None (set c))

pub returns-in-Some-clause-same : goal.returns-in-Some-clause-same
returns-in-Some-clause-same c =
    rows_of-empty c.args.rows.now c.empty_behind.new.self c.args.probe.now c.in-Some.before (found c) (rows_of-updates c.args.rows.now c.empty_behind.new.self c.args.probe.now (Some None) (set c))
