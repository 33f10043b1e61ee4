use Rattle.bdb_tables.specs.declared.tab.TabError.TheVariants.{Fault}
use Rattle.bdb_tables.proofs.Loops.{reading_more}
use Rattle.bdb_entries.proofs.ReadLemmas.{passed_all, passed_more, some_told}
use Rattle.bdb_entries.proofs.reading.fits.Goals as goal

pub returns-in-Ok-Some-None-clause-fits : goal.returns-in-Ok-Some-None-clause-fits
returns-in-Ok-Some-None-clause-fits g c =
    passed_all g.T.Tab.codec (g.K.Keeper.seen c.args.keeper.now).kept (g.K.Keeper.seen c.loop.keeper).kept c.loop.low.items c.next_raw.new.low.items c.in-Ok-Some-None.field-0-0
    c.loop.invariant.kept c.in-Ok-Some-None.field-0-0-is c.loop.invariant.read
    (some_told _ _ c.in-Ok-Some-None.field-0 c.in-Ok-Some-None.field-0-0 c.in-Ok-Some-None.field-0-is c.in-Ok-Some-None.ensures.found)

pub loop-preserved : goal.loop-preserved
loop-preserved g c =
    let old = g.K.Keeper.seen c.args.keeper.now in
    let now = g.K.Keeper.seen c.loop.keeper in
    let new = g.K.Keeper.seen c.next_raw.new.keeper in
    let w = c.in-Ok-Some-Some in
    reading_more old now new w.field-0 Fault c.loop.invariant w.ensures.read
    (passed_more g.T.Tab.codec old.kept now.kept c.loop.low.items c.next_raw.new.low.items w.field-0-0 w.field-0-0-0 c.loop.invariant.kept w.field-0-0-is c.loop.invariant.read
    (some_told _ _ w.field-0 w.field-0-0 w.field-0-is w.ensures.found))
