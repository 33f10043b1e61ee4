use Rattle.std.proofs.Common.{◌∙◌, ◌++◌, List, ap, get_or, map, refl, subst, ◌≡◌, ◌≤◌, ◌+◌, ◌*◌, length, arith}
use Rattle.bdb_base.specs.declared.kinds.Held.{Held}
use Rattle.bdb_tables.specs.declared.tab.TabError.TheVariants.{Fault}
use Rattle.bdb_tables.proofs.Loops.{reading_more}
use Rattle.bdb_val.specs.WorldReads.{AreRowsAt}
use Rattle.bdb_stored.specs.Structure.{row_placed}
use Rattle.bdb_stored.proofs.RowLemmas.{rows_all, rows_many, rows_more}
use Rattle.bdb_stored.proofs.rows.rows_of.Goals as goal

pub loop-at-preserved : goal.loop-at-preserved
loop-at-preserved g c =
    let old = g.K.Keeper.seen c.args.keeper.now in
    let now = g.K.Keeper.seen c.loop-at.keeper in
    let new = g.K.Keeper.seen c.world_at.new.keeper in
    let h = c.loop-at.invariant in
    let d = c.index-worlds-at.result in
    let x = get_or c.args.worlds.now c.loop-at.at d in
    let made = c.in-Ok-push_rows.ensures ∙ ap (λ (hs : List Held). c.loop-at.rows ++ map (row_placed c.args.tuples.now c.loop-at.at) hs) c.as_slice.ensures in
    let many : length c.push_rows.new.rows ≡ length c.loop-at.rows + length c.in-Ok.world.held = rows_many c.args.tuples.now c.loop-at.at c.in-Ok.world.held c.loop-at.rows c.push_rows.new.rows made in
    let reads : new.reads ≤ old.reads + (c.loop-at.at + 1 + 2 * length c.push_rows.new.rows) = omega (arith, many, c.in-Ok.ensures.reads, h.read.reads) in
    reading_more old now new c.in-Ok.world Fault h c.in-Ok.ensures.read (record {
      told = rows_more old.kept c.args.worlds.now c.requires.worlds c.loop-at.at x d c.loop-at.at c.args.tuples.now c.in-Ok.world.held c.loop-at.rows c.push_rows.new.rows c.loop-at-test.true refl refl c.requires.tuples h.read.told
          (subst (λ t. AreRowsAt t x.wid c.in-Ok.world.held) h.kept c.in-Ok.ensures.world) made;
      reads = reads;
    })

pub returns-clause-rows : goal.returns-clause-rows
returns-clause-rows g c =
    rows_all (g.K.Keeper.seen c.args.keeper.now).kept c.args.worlds.now c.requires.worlds c.loop-at.at c.loop-at.rows c.loop-at-test.false c.loop-at.invariant.read.told

pub returns-clause-reads : goal.returns-clause-reads
returns-clause-reads g c = omega (arith, c.loop-at.invariant.read.reads, c.loop-at.auto.at-end)
