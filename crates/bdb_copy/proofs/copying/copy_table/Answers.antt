use Rattle.bdb_keep.specs.declared.keeper.KeepError.TheVariants.{Fault}
use Rattle.bdb_tables.proofs.Loops.{reading_more}
use Rattle.bdb_copy.proofs.CopyLemmas.{row_copied, table_copied}
use Rattle.bdb_copy.proofs.copying.copy_table.Goals as goal

pub loop-preserved : goal.loop-preserved
loop-preserved g c =
    let old = g.K.Keeper.seen c.args.keeper.now in
    let now = g.K.Keeper.seen c.loop.keeper in
    let w = c.in-Ok-true in
    record {
      reading = reading_more old now (g.K.Keeper.seen c.next.new.self) w.field-0 Fault c.loop.invariant.reading w.ensures.read
          (row_copied old.kept now.kept c.args.tab c.loop.low.items c.deref.result.now c.next.new.key.items c.next.new.row.items c.deref-in-loop.result.now c.deref-in-loop-2.result.now
          c.copy_row.new.low.items c.loop.copy.kept c.copy_row.new.copy.kept w.field-0 c.loop.invariant.reading.kept c.deref.ensures.value w.field-0-test w.ensures.found
          c.deref-in-loop.ensures.value c.deref-in-loop-2.ensures.value c.loop.invariant.reading.read c.in-Ok.ensures.copied c.in-Ok.ensures.low);
      still = c.in-Ok.ensures.still;
    }

pub returns-in-Ok-false-clause-copied : goal.returns-in-Ok-false-clause-copied
returns-in-Ok-false-clause-copied g c =
    let w = c.in-Ok-false in
    table_copied (g.K.Keeper.seen c.args.keeper.now).kept (g.K.Keeper.seen c.loop.keeper).kept c.args.tab c.loop.low.items c.deref.result.now c.next.new.key.items c.next.new.row.items
    c.loop.copy.kept w.field-0 c.loop.invariant.reading.kept c.deref.ensures.value w.field-0-test w.ensures.found c.loop.invariant.reading.read
