use Rattle.std.proofs.Common.{◌∙◌, Some, None, cond, sym, ap, subst}
use Rattle.bdb_tables.specs.Codec.{IsEntryOf, IsRowOf}
use Rattle.bdb_tables.specs.InUse.{tuple_ix_codec}
use Rattle.bdb_update.proofs.numbers.number_of.Goals as goal

pub number_in-requires : goal.number_in-requires
number_in-requires g c =
    let row = c.get.new.row.items in
    let e : IsEntryOf tuple_ix_codec c.deref.result.now row =
    c.requires.grammar 5 c.deref.result.now row (c.in-Ok-true.ensures.found ∙ ap (λ b. cond b (Some row) None) c.in-Ok-true.field-0-test) in
    subst (IsRowOf tuple_ix_codec) (sym c.deref-in-Ok-true.ensures.value) (e.row, e.row_reads)
