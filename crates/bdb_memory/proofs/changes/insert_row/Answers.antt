use Rattle.std.proofs.Common.{Some, refl, subst}
use Rattle.bdb_memory.specs.Entries.{IsSetAt}
use Rattle.bdb_memory.proofs.StoreLemmas.{rows_of-updates, KeepsPlaces-updates}
use Rattle.bdb_memory.proofs.changes.insert_row.Goals as goal
use Rattle.bdb_memory.proofs.changes.insert_row.Goals.{In-Ok-Some, In-Ok-None}

set-some : (c : In-Ok-Some) → IsSetAt c.args.rows.now c.insert.new.self c.args.probe.now (Some (Some c.args.row.now))
set-some c = subst (λ es. IsSetAt es c.insert.new.self c.args.probe.now (Some (Some c.args.row.now))) (c.if-add_beside.ensures.same refl) c.in-Ok-Some.ensures.set

set-none : (c : In-Ok-None) → IsSetAt c.args.rows.now c.insert.new.self c.args.probe.now (Some (Some c.args.row.now))
set-none c = subst (λ es. IsSetAt es c.insert.new.self c.args.probe.now (Some (Some c.args.row.now))) (c.if-add_beside.ensures.same refl) c.in-Ok-None.ensures.set

pub returns-then-add_beside-clause-rows : goal.returns-then-add_beside-clause-rows
returns-then-add_beside-clause-rows c = rows_of-updates _ _ c.args.probe.now _ (c.if-add_beside.ensures.set refl)

pub returns-then-add_beside-clause-keeps : goal.returns-then-add_beside-clause-keeps
returns-then-add_beside-clause-keeps c = KeepsPlaces-updates _ _ c.args.probe.now _ (c.if-add_beside.ensures.set refl)

pub returns-in-Ok-Some-clause-rows : goal.returns-in-Ok-Some-clause-rows
returns-in-Ok-Some-clause-rows c = rows_of-updates _ _ c.args.probe.now _ (set-some c)

pub returns-in-Ok-Some-clause-keeps : goal.returns-in-Ok-Some-clause-keeps
returns-in-Ok-Some-clause-keeps c = KeepsPlaces-updates _ _ c.args.probe.now _ (set-some c)

pub returns-in-Ok-None-clause-rows : goal.returns-in-Ok-None-clause-rows
returns-in-Ok-None-clause-rows c = rows_of-updates _ _ c.args.probe.now _ (set-none c)

pub returns-in-Ok-None-clause-keeps : goal.returns-in-Ok-None-clause-keeps
returns-in-Ok-None-clause-keeps c = KeepsPlaces-updates _ _ c.args.probe.now _ (set-none c)
