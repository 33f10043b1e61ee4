use Rattle.std.proofs.Common.{◌≡◌, ◌++◌, [], ◌∷◌, sym, subst, rules}
use Rattle.bdb_tables.specs.Raw.{IsForeignFrom}
use Rattle.bdb_tables.specs.declared.tab.TabError.TheVariants.{Fault}
use Rattle.bdb_tables.proofs.Loops.{reading_more}
use Rattle.bdb_tables.proofs.SpanLemmas.{Covers, rows_more, rows_end}
use Rattle.bdb_entries.proofs.ReadLemmas.{foreign_misfits, none_told, some_told}
use Rattle.bdb_entries.proofs.reading.raw_rows.Goals as goal

pub returns-in-Ok-Some-None-clause-rows : goal.returns-in-Ok-Some-None-clause-rows
returns-in-Ok-Some-None-clause-rows g c =
    rows_end g.T.Tab.codec (g.K.Keeper.seen c.args.keeper.now).kept (g.K.Keeper.seen c.loop.keeper).kept [] c.loop.low.items c.next_raw.new.low.items c.loop.rows.items c.in-Ok-Some-None.field-0-0
    c.loop.invariant.kept c.in-Ok-Some-None.field-0-0-is c.loop.invariant.read
    (some_told _ _ c.in-Ok-Some-None.field-0 c.in-Ok-Some-None.field-0-0 c.in-Ok-Some-None.field-0-is c.in-Ok-Some-None.ensures.found)

pub returns-in-Ok-None-clause-rows : goal.returns-in-Ok-None-clause-rows
returns-in-Ok-None-clause-rows g c =
    foreign_misfits g.T.Tab.codec (g.K.Keeper.seen c.args.keeper.now).kept c.loop.low.items
    (subst (λ t. IsForeignFrom g.T.Tab.codec t c.loop.low.items) c.loop.invariant.kept (none_told _ _ c.in-Ok-None.field-0 c.in-Ok-None.field-0-is c.in-Ok-None.ensures.found))

pub loop-preserved : goal.loop-preserved
loop-preserved g c =
    let old = g.K.Keeper.seen c.args.keeper.now in
    let now = g.K.Keeper.seen c.loop.keeper in
    let new = g.K.Keeper.seen c.next_raw.new.keeper in
    let w = c.in-Ok-Some-Some in
    let pushed : c.push.new.self.items ≡ c.loop.rows.items ++ w.entry ∷ [] = search rules in
    reading_more old now new w.field-0 Fault c.loop.invariant w.ensures.read
    (subst (Covers g.T.Tab.codec old.kept [] c.next_raw.new.low.items) (sym pushed)
    (rows_more g.T.Tab.codec old.kept now.kept [] c.loop.low.items c.next_raw.new.low.items c.loop.rows.items w.field-0-0 w.entry c.loop.invariant.kept w.field-0-0-is c.loop.invariant.read
    (some_told _ _ w.field-0 w.field-0-0 w.field-0-is w.ensures.found)))
