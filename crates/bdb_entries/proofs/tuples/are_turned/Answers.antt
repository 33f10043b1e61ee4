use Rattle.std.proofs.Common.{sym, subst}
use Rattle.bdb_tables.specs.declared.tab.TabError.TheVariants.{Fault}
use Rattle.bdb_tables.proofs.Loops.{all_at_index, all_take_more, reading_more}
use Rattle.bdb_entries.specs.Tuples.{IsTurned, MayBeTurned}
use Rattle.bdb_entries.proofs.ReadLemmas.{past}
use Rattle.bdb_entries.proofs.TupleLemmas.{holding}
use Rattle.bdb_entries.proofs.tuples.are_turned.Goals as goal

pub is_turned-requires : goal.is_turned-requires
is_turned-requires g c = all_at_index (MayBeTurned g.T.Tab.codec) c.args.rows.now c.loop-row.row-index c.row-item.result c.loop-row-test.true c.row-item.is c.requires

pub returns-in-Ok-false-clause-turned : goal.returns-in-Ok-false-clause-turned
returns-in-Ok-false-clause-turned g c =
    let codec = g.T.Tab.codec in
    let old = g.K.Keeper.seen c.args.keeper.now in
    let x = c.row-item.result in
    λ all. past _ _ c.in-Ok-false.field-0 c.in-Ok-false.field-0-test c.in-Ok-false.ensures.turned
    (subst (λ t. IsTurned codec t x) (sym c.loop-row.invariant.kept) (all_at_index (IsTurned codec old.kept) c.args.rows.now c.loop-row.row-index x c.loop-row-test.true c.row-item.is all))

pub loop-row-preserved : goal.loop-row-preserved
loop-row-preserved g c =
    let codec = g.T.Tab.codec in
    let old = g.K.Keeper.seen c.args.keeper.now in
    let now = g.K.Keeper.seen c.loop-row.keeper in
    let new = g.K.Keeper.seen c.is_turned.new.keeper in
    let x = c.row-item.result in
    let h = c.loop-row.invariant in
    let turned = subst (λ t. IsTurned codec t x) h.kept (holding _ _ c.in-Ok-true.field-0 c.in-Ok-true.field-0-test c.in-Ok-true.ensures.turned) in
    reading_more old now new c.in-Ok-true.field-0 Fault h c.in-Ok-true.ensures.read
    (all_take_more (IsTurned codec old.kept) c.args.rows.now c.loop-row.row-index x c.loop-row-test.true c.row-item.is h.read turned)
