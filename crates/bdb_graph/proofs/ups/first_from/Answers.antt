use Rattle.bdb_tables.specs.declared.tab.TabError.TheVariants.{Fault}
use Rattle.bdb_tables.proofs.Loops.{reading_more}
use Rattle.bdb_graph.proofs.UpLemmas.{starts_more}
use Rattle.bdb_graph.proofs.ups.first_from.Goals as goal

pub loop-row-preserved : goal.loop-row-preserved
loop-row-preserved g c =
    let old = g.K.Keeper.seen c.args.keeper.now in
    let now = g.K.Keeper.seen c.loop-row.keeper in
    let new = g.K.Keeper.seen c.has_depth.new.keeper in
    let h = c.loop-row.invariant in
    let w = c.in-Ok-false in
    reading_more old now new w.field-0 Fault h w.ensures.read
    (starts_more old.kept now.kept c.args.depth c.args.rows.now c.loop-row.row-index _ c.start_of-start.result w.field-0 c.loop-row-test.true h.kept c.start_of-start.ensures w.field-0-test w.ensures.has h.read)
