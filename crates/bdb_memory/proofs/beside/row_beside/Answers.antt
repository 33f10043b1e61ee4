use Rattle.std.proofs.Common.{false, sym, ap, ◌∙◌, subst}
use Rattle.bdb_memory.specs.Entries.{row_of, place_at}
use Rattle.bdb_memory.specs.Shelves.{BelongsAmong}
use Rattle.bdb_memory.proofs.ShelvesLemmas.{shelf-place}
use Rattle.bdb_memory.proofs.BesideLemmas.{shelf-beside}
use Rattle.bdb_memory.proofs.beside.row_beside.Goals as goal

pub returns-in-Some : goal.returns-in-Some
returns-in-Some c =
    let bs = c.args.shelves.now in
    let q = c.args.probe.now in
    let i = c.args.cursor.0 in
    let belongs = subst (λ es. BelongsAmong es q false) c.shelf_at.ensures c.in-Some.ensures.belongs in
    let shelf = shelf-beside bs q i c.requires c.if-at-shelves.false belongs in
    c.in-Some.ensures.row ∙ ap (λ es. row_of (place_at es q)) c.shelf_at.ensures ∙ sym (ap row_of (shelf-place bs q i c.requires shelf))
