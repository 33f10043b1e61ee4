use Rattle.std.proofs.Common.{None, refl, sym, ap, ◌∙◌, subst}
use Rattle.std.specs.FinMap as map
use Rattle.bdb_memory.specs.Entries.{rows_of, IsSetAt}
use Rattle.bdb_memory.specs.Blocks.{joined}
use Rattle.bdb_memory.proofs.StoreLemmas.{get_rows_of, rows_of-updates}
use Rattle.bdb_memory.proofs.TallySteps.{noted}
use Rattle.bdb_memory.proofs.rows.PlacedRows.remove.Goals as goal

pub invariant_of-self : goal.invariant_of-self
invariant_of-self c =
    let q = c.args.probe.now in
    noted c.self.inside.tally c.note.new.self c.self.inside.shelves.items c.remove-cursor.new.shelves.items q (map.get (rows_of c.args.self.now) q) None _ _
    c.note.ensures c.self.invariant c.remove-cursor.ensures.sorted c.remove-cursor.ensures.set
    (sym (get_rows_of (joined c.self.inside.shelves.items) q) ∙ ap (λ es. map.get (rows_of es) q) c.self.view_is) c.has_marked-was.ensures refl

pub returns-clause-rows : goal.returns-clause-rows
returns-clause-rows c =
    let q = c.args.probe.now in
    rows_of-updates c.args.self.now (joined c.remove-cursor.new.shelves.items) q None (subst (λ es. IsSetAt es (joined c.remove-cursor.new.shelves.items) q None) c.self.view_is c.remove-cursor.ensures.set)
