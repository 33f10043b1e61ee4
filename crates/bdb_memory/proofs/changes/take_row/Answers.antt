use Rattle.std.proofs.Common.{None, rules, sym, subst}
use Rattle.bdb_memory.specs.Changes.{HavePlaces}
use Rattle.bdb_keep.specs.Tables.{IsPlace}
use Rattle.bdb_memory.proofs.StoreLemmas.{undone-taken, HavePlaces-kept, HavePlaces-keeps, places_of-kept}
use Rattle.bdb_memory.proofs.changes.take_row.Goals as goal

pub returns-in-Some-clause-last : goal.returns-in-Some-clause-last
returns-in-Some-clause-last c =
    undone-taken c.args.changes.now.items _ c.push_reserved.new.self.items _ _ c.probe.result c.args.rows.now c.empty_place.new.rows c.reserve.ensures.items c.push_reserved.ensures.items
    (search rules) None (sym c.in-Some.ensures.row) c.empty_place.ensures.rows

pub returns-in-Some-clause-places : goal.returns-in-Some-clause-places
returns-in-Some-clause-places c =
    places_of-kept c.args.changes.now.items _ c.push_reserved.new.self.items _ _ c.args.place c.args.rows.now c.empty_place.new.rows c.reserve.ensures.items c.push_reserved.ensures.items
    (search rules)

pub returns-in-Some-clause-has : goal.returns-in-Some-clause-has
returns-in-Some-clause-has c =
    HavePlaces-kept c.args.changes.now.items _ c.push_reserved.new.self.items _ _ c.probe.result c.args.rows.now c.empty_place.new.rows c.reserve.ensures.items c.push_reserved.ensures.items
    (search rules) c.requires.has (subst IsPlace (sym c.probe.ensures) c.requires.place) c.in-Some.ensures.here c.empty_place.ensures.keeps

pub returns-in-None-clause-has : goal.returns-in-None-clause-has
returns-in-None-clause-has c = HavePlaces-keeps c.reserve.new.self.items c.args.rows.now c.empty_place.new.rows (subst (λ cs. HavePlaces cs c.args.rows.now) (sym c.reserve.ensures.items) c.requires.has) c.empty_place.ensures.keeps
