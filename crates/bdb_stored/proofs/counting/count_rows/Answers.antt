use Rattle.std.proofs.Common.{◌∙◌, ◌+◌, ◌-◌, ◌^◌, List, ap, get_or, length, subst, arith}
use Rattle.std.specs.Prelude.{min}
use Rattle.std.proofs.lemmas.List.{take_all}
use Rattle.bdb_base.specs.declared.kinds.Held.{Held}
use Rattle.bdb_tables.specs.declared.tab.TabError.TheVariants.{Fault}
use Rattle.bdb_tables.proofs.Loops.{reading_more}
use Rattle.bdb_val.specs.WorldReads.{AreRowsAt}
use Rattle.bdb_stored.specs.Counting.{CountsRows, explicit_rows}
use Rattle.bdb_stored.proofs.CountingLemmas.{counts_more, reads_more}
use Rattle.bdb_stored.proofs.counting.count_rows.Goals as goal

pub loop-world-preserved : goal.loop-world-preserved
loop-world-preserved g c =
    let old = g.K.Keeper.seen c.args.keeper.now in
    let now = g.K.Keeper.seen c.loop-world.keeper in
    let new = g.K.Keeper.seen c.world_at.new.keeper in
    let h = c.loop-world.invariant in
    let held = c.in-Ok.found.held in
    let same = c.as_slice-held.ensures in
    let rows = c.saturating_add-rows.ensures ∙ ap (λ (xs : List Held). min (c.loop-world.rows + length xs) (2 ^ 64 - 1)) same in
    reading_more old now new c.in-Ok.found Fault h c.in-Ok.ensures.read (record {
      counts = counts_more old.kept c.args.worlds.now c.loop-world.world-index c.loop-world.stmts c.loop-world.rows c.saturating_add-stmts.result c.saturating_add-rows.result held c.loop-world-test.true h.read.counts
          (subst (λ t. AreRowsAt t (get_or c.args.worlds.now c.loop-world.world-index (0, 0)).0 held) h.kept c.in-Ok.ensures.world)
          (c.saturating_add-stmts.ensures ∙ ap (λ n. min (c.loop-world.stmts + n) (2 ^ 64 - 1)) (c.count_explicit.ensures ∙ ap explicit_rows same))
          rows;
      reads = reads_more old.reads now.reads new.reads c.loop-world.world-index c.loop-world.rows c.saturating_add-rows.result (length held) h.read.reads rows c.in-Ok.ensures.reads;
    })

pub returns-clause-counts : goal.returns-clause-counts
returns-clause-counts g c =
    subst (λ xs. CountsRows (g.K.Keeper.seen c.args.keeper.now).kept xs c.loop-world.stmts c.loop-world.rows) (take_all c.loop-world.world-index c.args.worlds.now c.loop-world-test.false) c.loop-world.invariant.read.counts

pub returns-clause-reads : goal.returns-clause-reads
returns-clause-reads g c below = let k = c.loop-world.invariant.read.reads below in omega (arith, k, c.loop-world.auto.world-index-end)
