use Rattle.std.proofs.Common.{◌∷◌, ◌++◌, ◌∙◌, sym, ap}
use Rattle.bdb_memory.specs.Blocks.{joined}
use Rattle.bdb_keep.specs.Spans.{Listed}
use Rattle.bdb_memory.specs.Under.{entries_under}
use Rattle.bdb_memory.proofs.UnderLemmas.{rows_are_under}
use Rattle.bdb_memory.proofs.shelves.read_under.Goals as goal

pub returns-in_ok-spot-in-Some : goal.returns-in_ok-spot-in-Some
returns-in_ok-spot-in-Some c =
    let es = joined c.args.shelves.now in
    rows_are_under c.args.tab c.args.prefix.now es c.read_under_from.new.span c.requires.sorted.ascends
    (c.in_ok-spot-in-Some.ensures ∙ ap (λ (l : Listed). l ++ entries_under c.args.probe.now es) c.clear.ensures ∙ ap (λ p. entries_under p es) c.requires.place)

pub returns-in-None : goal.returns-in-None
returns-in-None c =
    let es = joined c.args.shelves.now in
    rows_are_under c.args.tab c.args.prefix.now es c.clear.new.self c.requires.sorted.ascends (c.clear.ensures ∙ sym (ap (entries_under (c.args.tab ∷ c.args.prefix.now)) c.in-None.ensures.none))
