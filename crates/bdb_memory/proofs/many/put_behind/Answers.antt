use Rattle.std.proofs.Common.{◌∷◌, Some, sym, ap, subst, rules}
use Rattle.std.specs.Prelude.{is_some}
use Rattle.bdb_keep.specs.Tables.{IsPlace}
use Rattle.bdb_memory.specs.Entries.{IsSetAt}
use Rattle.bdb_memory.specs.Changes.{HavePlaces}
use Rattle.bdb_memory.proofs.StoreLemmas.{rows_of-updates, KeepsPlaces-updates, undone-kept, HavePlaces-kept}
use Rattle.bdb_memory.proofs.many.put_behind.Goals as goal
use Rattle.bdb_memory.proofs.many.put_behind.Goals.{After-push_reserved}

set : (c : After-push_reserved) → IsSetAt c.args.rows.now c.put_behind.new.self c.of-probe.result (Some (Some c.args.row.now))
set c = c.in-Some.ensures.set

pub returns-in-Some-clause-rows : goal.returns-in-Some-clause-rows
returns-in-Some-clause-rows c _ =
    rows_of-updates c.args.rows.now c.put_behind.new.self (c.args.tab ∷ c.args.key.now) (Some (Some c.args.row.now))
    (subst (λ p. IsSetAt c.args.rows.now c.put_behind.new.self p (Some (Some c.args.row.now))) c.of-probe.ensures (set c))

pub returns-in-Some-clause-last : goal.returns-in-Some-clause-last
returns-in-Some-clause-last c =
    undone-kept c.args.changes.now.items _ c.push_reserved.new.self.items _ _ c.of-probe.result c.args.rows.now c.put_behind.new.self c.reserve.ensures.items c.push_reserved.ensures.items
    (search rules) (Some c.args.row.now) c.in-Some.ensures.found
    (rows_of-updates c.args.rows.now c.put_behind.new.self c.of-probe.result (Some (Some c.args.row.now)) (set c))

pub returns-in-Some-clause-has : goal.returns-in-Some-clause-has
returns-in-Some-clause-has c =
    HavePlaces-kept c.args.changes.now.items _ c.push_reserved.new.self.items _ _ c.of-probe.result c.args.rows.now c.put_behind.new.self c.reserve.ensures.items c.push_reserved.ensures.items
    (search rules) c.requires.has (subst IsPlace (sym c.of-probe.ensures) c.requires.place) (ap is_some (set c).here)
    (KeepsPlaces-updates c.args.rows.now c.put_behind.new.self c.of-probe.result (Some c.args.row.now) (set c))

pub returns-in-None-clause-has : goal.returns-in-None-clause-has
returns-in-None-clause-has c =
    subst (HavePlaces c.reserve.new.self.items) (sym c.in-None.ensures.same) (subst (λ cs. HavePlaces cs c.args.rows.now) (sym c.reserve.ensures.items) c.requires.has)
