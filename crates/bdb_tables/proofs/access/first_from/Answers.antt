use Rattle.std.proofs.Common.{sym, ◌∙◌}
use Rattle.bdb_keep.specs.Tables.{IsLeastFrom, NoneFrom}
use Rattle.bdb_tables.proofs.Held.{at_true, held, key_of_entry, row_of_entry}
use Rattle.bdb_tables.proofs.access.first_from.Goals as goal

pub entry_from-requires-clause-key : goal.entry_from-requires-clause-key
entry_from-requires-clause-key g c =
    let laws = g.met.T.Tab in
    let e = held g.T.Tab.codec (g.K.Keeper.seen c.args.keeper.now).kept c.requires.grammar c.NUMBER.result c.next.new.key.items c.next.new.row.items (c.NUMBER.ensures ∙ sym laws.number_ok.2) (at_true c.in-Ok-true.field-0 (IsLeastFrom (g.K.Keeper.seen c.args.keeper.now).kept c.NUMBER.result c.args.low.now c.next.new.key.items c.next.new.row.items) (NoneFrom (g.K.Keeper.seen c.args.keeper.now).kept c.NUMBER.result c.args.low.now) c.in-Ok-true.field-0-test c.in-Ok-true.ensures.found).found in
    rw c.deref.ensures.value (key_of_entry g.T.Tab.codec c.next.new.key.items c.next.new.row.items e)

pub entry_from-requires-clause-row : goal.entry_from-requires-clause-row
entry_from-requires-clause-row g c =
    let laws = g.met.T.Tab in
    let e = held g.T.Tab.codec (g.K.Keeper.seen c.args.keeper.now).kept c.requires.grammar c.NUMBER.result c.next.new.key.items c.next.new.row.items (c.NUMBER.ensures ∙ sym laws.number_ok.2) (at_true c.in-Ok-true.field-0 (IsLeastFrom (g.K.Keeper.seen c.args.keeper.now).kept c.NUMBER.result c.args.low.now c.next.new.key.items c.next.new.row.items) (NoneFrom (g.K.Keeper.seen c.args.keeper.now).kept c.NUMBER.result c.args.low.now) c.in-Ok-true.field-0-test c.in-Ok-true.ensures.found).found in
    rw c.deref-2.ensures.value (row_of_entry g.T.Tab.codec c.next.new.key.items c.next.new.row.items e)
