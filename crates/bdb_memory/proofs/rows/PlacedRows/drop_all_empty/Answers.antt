use Rattle.std.proofs.Common.{ap, ◌∙◌}
use Rattle.bdb_memory.specs.Entries.{rows_of}
use Rattle.bdb_memory.specs.Blocks.{joined}
use Rattle.bdb_memory.proofs.FirstLemmas.{rows_of-kept}
use Rattle.bdb_memory.proofs.BlocksLemmas.{sorted-without, joined-without}
use Rattle.bdb_memory.proofs.TallySteps.{kept-tallied}
use Rattle.bdb_memory.proofs.rows.PlacedRows.drop_all_empty.Goals as goal

pub invariant_of-self : goal.invariant_of-self
invariant_of-self c =
    let bs = c.self.inside.shelves.items in
    let cs = c.drop_empty_shelves.new.shelves.items in
    kept-tallied c.self.inside.tally bs cs c.self.invariant
    (sorted-without bs cs c.self.invariant.sorted (c.drop_empty_shelves.ensures.same ∙ ap joined c.drop_empty_places.ensures) c.drop_empty_shelves.ensures.full)
    (ap rows_of (c.drop_empty_shelves.ensures.same ∙ ap joined c.drop_empty_places.ensures ∙ joined-without bs) ∙ rows_of-kept (joined bs) c.self.invariant.sorted.ascends)

pub returns : goal.returns
returns c =
    ap rows_of (c.drop_empty_shelves.ensures.same ∙ ap joined c.drop_empty_places.ensures ∙ joined-without c.self.inside.shelves.items)
    ∙ rows_of-kept (joined c.self.inside.shelves.items) c.self.invariant.sorted.ascends ∙ ap rows_of c.self.view_is
