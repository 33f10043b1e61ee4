use Rattle.bdb_tables.specs.declared.tab.TabError.TheVariants.{Fault}
use Rattle.bdb_tables.proofs.Loops.{only_reads_more}
use Rattle.bdb_graph.proofs.LeadingLemmas.{led_more, not_led}
use Rattle.bdb_graph.proofs.leading.each_is_led.Goals as goal

pub loop-up-preserved : goal.loop-up-preserved
loop-up-preserved g c =
    let old = g.K.Keeper.seen c.args.keeper.now in
    let now = g.K.Keeper.seen c.loop-up.keeper in
    let new = g.K.Keeper.seen c.has_edge.new.keeper in
    let h = c.loop-up.invariant in
    let w = c.in-Ok-true in
    only_reads_more old now new w.field-0 Fault h w.ensures.reading
    (led_more old.kept now.kept c.args.ups.now c.loop-up.up-index _ c.copy_of-up.result w.field-0 c.loop-up-test.true h.kept c.copy_of-up.ensures w.field-0-test w.ensures.edge h.read)

pub returns-in-Ok-false-clause-led : goal.returns-in-Ok-false-clause-led
returns-in-Ok-false-clause-led g c =
    let w = c.in-Ok-false in
    not_led (g.K.Keeper.seen c.args.keeper.now).kept (g.K.Keeper.seen c.loop-up.keeper).kept c.args.ups.now c.loop-up.up-index _ c.copy_of-up.result w.field-0 c.loop-up-test.true c.loop-up.invariant.kept c.copy_of-up.ensures
    w.field-0-test w.ensures.edge
