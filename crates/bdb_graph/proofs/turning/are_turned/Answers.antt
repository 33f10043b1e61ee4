use Rattle.bdb_tables.specs.declared.tab.TabError.TheVariants.{Fault}
use Rattle.bdb_tables.proofs.Loops.{reading_more}
use Rattle.bdb_entries.proofs.ReadLemmas.{past}
use Rattle.bdb_entries.proofs.TupleLemmas.{holding}
use Rattle.bdb_graph.proofs.TurningLemmas.{below_all, below_more, not_all, turned_here}
use Rattle.bdb_graph.proofs.turning.are_turned.Goals as goal

pub loop-preserved : goal.loop-preserved
loop-preserved g c =
    let old = g.K.Keeper.seen c.args.keeper.now in
    let now = g.K.Keeper.seen c.loop.keeper in
    let mid = g.K.Keeper.seen c.step.new.keeper in
    let new = g.K.Keeper.seen c.is_turned.new.keeper in
    let h = c.loop.invariant in
    let s = c.in-Ok-true in
    let w = c.in-Ok-true-is_turned in
    let stepped = holding _ _ s.field-0 s.field-0-test s.ensures.found in
    let on = reading_more old now mid s.field-0 Fault h s.ensures.read h.read in
    let here = turned_here old.kept mid.kept c.args.way c.args.other c.step.new.key.items c.step.new.row.items c.deref.result.now c.deref-in-loop.result.now on.kept c.deref.ensures.value c.deref-in-loop.ensures.value
    (holding _ _ w.field-0 w.field-0-test w.ensures.turned) in
    reading_more old mid new w.field-0 Fault on w.ensures.read
    (below_more old.kept now.kept c.args.tab c.args.way c.args.other c.loop.low.items c.step.new.low.items c.step.new.key.items c.step.new.row.items h.kept stepped here h.read)

pub returns-in-Ok-false-clause-turned : goal.returns-in-Ok-false-clause-turned
returns-in-Ok-false-clause-turned g c =
    let s = c.in-Ok-false in
    below_all (g.K.Keeper.seen c.args.keeper.now).kept (g.K.Keeper.seen c.loop.keeper).kept c.args.tab c.args.way c.args.other c.loop.low.items c.loop.invariant.kept
    (past _ _ s.field-0 s.field-0-test s.ensures.found) c.loop.invariant.read

pub returns-in-Ok-false-is_turned-clause-turned : goal.returns-in-Ok-false-is_turned-clause-turned
returns-in-Ok-false-is_turned-clause-turned g c =
    let old = g.K.Keeper.seen c.args.keeper.now in
    let now = g.K.Keeper.seen c.loop.keeper in
    let mid = g.K.Keeper.seen c.step.new.keeper in
    let h = c.loop.invariant in
    let s = c.in-Ok-true in
    let w = c.in-Ok-false-is_turned in
    let on = reading_more old now mid s.field-0 Fault h s.ensures.read h.read in
    not_all old.kept now.kept mid.kept c.args.tab c.args.way c.args.other c.loop.low.items c.step.new.low.items c.step.new.key.items c.step.new.row.items c.deref.result.now c.deref-in-loop.result.now
    h.kept on.kept c.deref.ensures.value c.deref-in-loop.ensures.value (holding _ _ s.field-0 s.field-0-test s.ensures.found) (past _ _ w.field-0 w.field-0-test w.ensures.turned)
