use Rattle.std.proofs.Common.{false, subst}
use Rattle.bdb_memory.specs.Shelves.{BelongsAmong, IsFirstRow}
use Rattle.bdb_memory.proofs.BesideLemmas.{first-beside}
use Rattle.bdb_memory.proofs.beside.first_row_beside.Goals as goal

pub returns-in-Some : goal.returns-in-Some
returns-in-Some c =
    let bs = c.args.shelves.now in
    let q = c.args.probe.now in
    let i = c.args.cursor.0 in
    let belongs = subst (λ es. BelongsAmong es q false) c.shelf_at.ensures c.in-Some.ensures.belongs in
    first-beside bs q i c.in-Some.entry.now c.requires c.if-at-shelves.false belongs (subst (λ es. IsFirstRow es q c.in-Some.entry.now) c.shelf_at.ensures c.in-Some.ensures.found)
