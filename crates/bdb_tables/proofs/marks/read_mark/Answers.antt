use Rattle.std.proofs.Common.{Some, None, cond, ap, ◌∙◌}
use Rattle.bdb_tables.proofs.MarkLemmas.{is_mark_row}
use Rattle.bdb_tables.proofs.marks.read_mark.Goals as goal

pub mark_from-requires : goal.mark_from-requires
mark_from-requires g c =
    let found = c.in-Ok-true.ensures.found ∙ ap (λ b. cond b (Some c.get.new.row.items) None) c.in-Ok-true.field-0-test in
    let e = c.requires.grammar c.deref.result.now c.get.new.row.items found in
    rw c.deref-in-Ok-true.ensures.value (is_mark_row c.deref.result.now c.get.new.row.items e)
