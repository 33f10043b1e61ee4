use Rattle.std.proofs.Common.{sym, ap, ◌∙◌}
use Rattle.bdb_memory.specs.Entries.{row_of, place_at}
use Rattle.bdb_memory.proofs.ShelvesLemmas.{shelf-place}
use Rattle.bdb_memory.proofs.shelves.row_searched.Goals as goal

pub returns-in-Some : goal.returns-in-Some
returns-in-Some c =
    let q = c.args.probe.now in
    c.row_at.ensures ∙ ap (λ es. row_of (place_at es q)) c.shelf_at.ensures ∙ sym (ap row_of (shelf-place c.args.shelves.now q c.in-Some.at c.requires c.in-Some.ensures.shelf))

pub returns-in-None : goal.returns-in-None
returns-in-None c = sym (ap (λ es. row_of (place_at es c.args.probe.now)) c.in-None.ensures.none)
