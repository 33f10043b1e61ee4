use Rattle.std.proofs.Common.{ap, ◌∙◌}
use Rattle.bdb_memory.specs.Blocks.{joined}
use Rattle.bdb_memory.specs.Tallies.{count_among}
use Rattle.bdb_memory.proofs.TallySteps.{tally-counted, walk-counted}
use Rattle.bdb_memory.proofs.rows.PlacedRows.count_marked.Goals as goal

pub returns-in-Some : goal.returns-in-Some
returns-in-Some c =
    tally-counted c.args.tab c.args.end c.args.number c.self.inside.tally c.self.inside.shelves.items c.args.self.now c.in-Some.count c.self.invariant c.self.view_is c.in-Some.ensures

pub returns-in_ok-count-in-None : goal.returns-in_ok-count-in-None
returns-in_ok-count-in-None c =
    walk-counted c.args.tab c.args.end c.args.number c.self.inside.tally c.self.inside.shelves.items c.args.self.now c.in_ok-count-in-None.count c.self.invariant c.self.view_is
    (c.in_ok-count-in-None.ensures ∙ ap (λ bs. count_among c.args.tab c.args.end c.args.number (joined bs)) c.as_slice.ensures.value)
