use Rattle.std.proofs.Common.{◌∙◌}
use Rattle.bdb_tables.specs.Writes.{IsChange, MayBeChange}
use Rattle.bdb_tables.specs.declared.tab.TabError.TheVariants.{Fault}
use Rattle.bdb_tables.proofs.Loops.{writing_ok, writing_err, writing_more, rises_more, all_at_index, all_take_more, changes_left}
use Rattle.bdb_tables.proofs.changes.write_rows.Goals as goal

pub write_row-requires-clause-change : goal.write_row-requires-clause-change
write_row-requires-clause-change g c =
    all_at_index (MayBeChange g.T.Tab.codec) c.args.changes.now c.loop-change.change-index c.change-item.result c.loop-change-test.true c.change-item.is c.requires.changes

pub returns-in-Err-clause-write : goal.returns-in-Err-clause-write
returns-in-Err-clause-write g c =
    writing_err (g.K.Keeper.seen c.args.keeper.now) (g.K.Keeper.seen c.loop-change.keeper) (g.K.Keeper.seen c.write_row.new.keeper) c.in-Err.error Fault c.loop-change.invariant c.in-Err.ensures.write

pub loop-change-preserved : goal.loop-change-preserved
loop-change-preserved g c =
    let codec = g.T.Tab.codec in
    let i = c.loop-change.change-index in
    let xs = c.args.changes.now in
    let x = c.change-item.result in
    let lt = c.loop-change-test.true in
    let old = g.K.Keeper.seen c.args.keeper.now in
    let now = g.K.Keeper.seen c.loop-change.keeper in
    let new = g.K.Keeper.seen c.write_row.new.keeper in
    let h = c.loop-change.invariant in
    writing_more old now new tt Fault h c.in-Ok.ensures.write (record {
      left = changes_left codec now.kept new.kept xs i x lt c.change-item.is c.in-Ok.ensures.kept ∙ h.written.left;
      fits = all_take_more (IsChange codec) xs i x lt c.change-item.is h.written.fits c.in-Ok.ensures.fits;
      grammar = λ k. c.in-Ok.ensures.grammar (h.written.grammar k);
      writes = rises_more i old.writes now.writes new.writes c.in-Ok.ensures.write.counts.writes h.written.writes c.in-Ok.ensures.writes;
    })

pub returns-clause-write : goal.returns-clause-write
returns-clause-write g c = writing_ok (g.K.Keeper.seen c.args.keeper.now) (g.K.Keeper.seen c.loop-change.keeper) tt Fault c.loop-change.invariant
