use Rattle.std.proofs.Common.{Some, ◌∷◌, sym, subst, rules}
use Rattle.bdb_keep.specs.Tables.{IsPlace}
use Rattle.bdb_memory.proofs.StoreLemmas.{undone-kept, HavePlaces-kept, places_of-kept}
use Rattle.bdb_memory.proofs.changes.put_far.Goals as goal

pub returns-clause-last : goal.returns-clause-last
returns-clause-last c =
    undone-kept c.args.changes.now.items _ c.push_reserved.new.self.items _ _ c.of-probe.result c.args.rows.now c.insert_row.new.rows c.reserve.ensures.items c.push_reserved.ensures.items
    (search rules) (Some c.args.row.now) c.in_ok-before.ensures.before c.in_ok-before.ensures.rows

pub returns-clause-places : goal.returns-clause-places
returns-clause-places c =
    places_of-kept c.args.changes.now.items _ c.push_reserved.new.self.items _ _ (c.args.tab ∷ c.args.key.now) c.args.rows.now c.insert_row.new.rows c.reserve.ensures.items c.push_reserved.ensures.items
    (search rules)

pub returns-clause-has : goal.returns-clause-has
returns-clause-has c =
    HavePlaces-kept c.args.changes.now.items _ c.push_reserved.new.self.items _ _ c.of-probe.result c.args.rows.now c.insert_row.new.rows c.reserve.ensures.items c.push_reserved.ensures.items
    (search rules) c.requires.has (subst IsPlace (sym c.of-probe.ensures) c.requires.place) c.in_ok-before.ensures.here c.in_ok-before.ensures.keeps
