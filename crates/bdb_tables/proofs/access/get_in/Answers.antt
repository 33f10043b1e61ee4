use Rattle.std.proofs.Common.{Some, None, cond, sym, ap, ◌∙◌}
use Rattle.bdb_tables.proofs.Held.{held, row_of_entry}
use Rattle.bdb_tables.proofs.access.get_in.Goals as goal

pub row_from-requires : goal.row_from-requires
row_from-requires g c =
    let laws = g.met.T.Tab in
    let found = c.in-Ok-true.ensures.found ∙ ap (λ b. cond b (Some c.get.new.row.items) None) c.in-Ok-true.field-0-test in
    let e = held g.T.Tab.codec (g.K.Keeper.seen c.args.keeper.now).kept c.requires.grammar c.NUMBER.result c.deref.result.now c.get.new.row.items (c.NUMBER.ensures ∙ sym laws.number_ok.2) found in
    rw c.deref-2.ensures.value (row_of_entry g.T.Tab.codec c.deref.result.now c.get.new.row.items e)
