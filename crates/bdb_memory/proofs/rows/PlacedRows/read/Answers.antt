use Rattle.std.proofs.Common.{sym, ap, ◌∙◌}
use Rattle.bdb_memory.specs.Entries.{row_of, place_at}
use Rattle.bdb_memory.specs.Blocks.{joined}
use Rattle.bdb_memory.proofs.StoreLemmas.{get_rows_of}
use Rattle.bdb_memory.proofs.rows.PlacedRows.read.Goals as goal

pub returns-clause-found : goal.returns-clause-found
returns-clause-found c =
    let q = c.args.probe.now in
    get_rows_of c.args.self.now q ∙ ap (λ es. row_of (place_at es q)) (sym c.self.view_is) ∙ ap (λ bs. row_of (place_at (joined bs) q)) (sym c.deref.ensures.value) ∙ c.in_ok-cursor.ensures.found
