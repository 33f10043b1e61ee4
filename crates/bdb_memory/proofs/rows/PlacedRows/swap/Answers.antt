use Rattle.std.proofs.Common.{Some, ap}
use Rattle.bdb_memory.specs.Entries.{row_of}
use Rattle.bdb_memory.proofs.TallySteps.{noted}
use Rattle.bdb_memory.proofs.rows.PlacedRows.swap.Goals as goal

pub invariant_of-self : goal.invariant_of-self
invariant_of-self c =
    noted c.self.inside.tally c.note.new.self c.self.inside.shelves.items c.swap.new.shelves.items c.args.probe.now _ (Some c.args.row) _ _
    c.note.ensures c.self.invariant c.in-Ok.ensures.sorted c.in-Ok.ensures.set (ap row_of c.in-Ok.ensures.found) c.has_marked_in.ensures c.has_marked_in-is.ensures
