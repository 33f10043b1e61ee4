use Rattle.std.proofs.Common.{◌≡◌, ◌++◌, [], ◌∷◌, ℕ, sym, subst, rules}
use Rattle.bdb_tables.specs.declared.tab.TabError.TheVariants.{Fault}
use Rattle.bdb_tables.proofs.Loops.{only_reads_more}
use Rattle.bdb_entries.proofs.ReadLemmas.{some_told}
use Rattle.bdb_graph.specs.Ups.{HasDepth, IsUp}
use Rattle.bdb_graph.proofs.UpLemmas.{all_get, ups_more}
use Rattle.bdb_graph.proofs.ups.raw_ups.Goals as goal

pub up_of-requires-clause-depth : goal.up_of-requires-clause-depth
up_of-requires-clause-depth g c =
    let t = (g.K.Keeper.seen c.args.keeper.now).kept in
    let p = c.pair_of-world.result in
    subst (λ u. HasDepth u p.0 p.1) (sym c.loop-row.invariant.kept)
    (subst (λ (e : ℕ × ℕ). HasDepth t e.0 e.1) (sym c.pair_of-world.ensures) (all_get (λ (e : ℕ × ℕ). HasDepth t e.0 e.1) c.args.depths.now c.loop-row.row-index _ c.loop-row-test.true c.requires.depths))

pub loop-row-preserved : goal.loop-row-preserved
loop-row-preserved g c =
    let old = g.K.Keeper.seen c.args.keeper.now in
    let now = g.K.Keeper.seen c.loop-row.keeper in
    let new = g.K.Keeper.seen c.up_of.new.keeper in
    let h = c.loop-row.invariant in
    let w = c.in-Ok-Some in
    let pushed : c.push.new.self.items ≡ c.loop-row.ups.items ++ w.up ∷ [] = search rules in
    only_reads_more old now new w.field-0 Fault h w.ensures.reading
    (ups_more old.kept c.args.depths.now c.loop-row.row-index _ c.pair_of-world.result c.loop-row.ups.items c.push.new.self.items w.up c.loop-row-test.true c.pair_of-world.ensures h.read
    (subst (λ t. IsUp t c.pair_of-world.result w.up) h.kept (some_told _ _ w.field-0 w.up w.field-0-is w.ensures.up)) pushed)
