use Rattle.std.proofs.Common.{Some, None, refl, ap}
use Rattle.bdb_memory.specs.Entries.{row_of}
use Rattle.bdb_memory.proofs.TallySteps.{noted}
use Rattle.bdb_memory.proofs.rows.PlacedRows.empty_behind.Goals as goal

pub invariant_of-self : goal.invariant_of-self
invariant_of-self c =
    noted c.self.inside.tally c.note.new.self c.self.inside.shelves.items c.empty_behind.new.shelves.items c.args.probe.now _ (Some None) _ _
    c.note.ensures c.self.invariant c.in-Some.ensures.sorted c.in-Some.ensures.set (ap row_of c.in-Some.ensures.found) c.has_marked_in.ensures refl
