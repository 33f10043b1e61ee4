use Rattle.std.proofs.Common.{sym, subst}
use Rattle.std.proofs.lemmas.List.{take_all}
use Rattle.bdb_keep.specs.Tables.{Tables}
use Rattle.bdb_tables.specs.declared.tab.TabError.TheVariants.{Fault}
use Rattle.bdb_tables.proofs.Loops.{all_at_index}
use Rattle.bdb_update.specs.Groups.{AreExplicitRows, HasTupleRow, IsPicked}
use Rattle.bdb_update.proofs.ExplicitLemmas.{picked_more}
use Rattle.bdb_update.proofs.QuietLemmas.{looking_more}
use Rattle.bdb_update.proofs.groups.explicit_among.Goals as goal

pub push_explicit-requires-clause-there : goal.push_explicit-requires-clause-there
push_explicit-requires-clause-there g c =
    let t = (g.K.Keeper.seen c.args.keeper.now).kept in
    let e = c.entry-item.result in
    subst (λ (v : Tables). HasTupleRow v e) (sym c.loop-entry.invariant.quiet.kept)
    (all_at_index (HasTupleRow t) c.args.entries.now c.loop-entry.entry-index e c.loop-entry-test.true c.entry-item.is c.requires.there)

pub loop-entry-preserved : goal.loop-entry-preserved
loop-entry-preserved g c =
    let old = g.K.Keeper.seen c.args.keeper.now in
    let mid = g.K.Keeper.seen c.loop-entry.keeper in
    let e = c.entry-item.result in
    let h = c.loop-entry.invariant in
    looking_more old mid (g.K.Keeper.seen c.push_explicit.new.keeper) c.in-Ok.field-0 Fault h c.in-Ok.ensures.read
    (picked_more old.kept c.args.entries.now c.loop-entry.entry-index e c.loop-entry.rows.items c.push_explicit.new.rows.items c.loop-entry-test.true c.entry-item.is h.read
    (subst (λ (v : Tables). IsPicked v e c.loop-entry.rows.items c.push_explicit.new.rows.items) h.quiet.kept c.in-Ok.ensures.pushed))

pub returns-clause-rows : goal.returns-clause-rows
returns-clause-rows g c =
    let t = (g.K.Keeper.seen c.args.keeper.now).kept in
    subst (λ xs. AreExplicitRows t xs c.loop-entry.rows.items) (take_all c.loop-entry.entry-index c.args.entries.now c.loop-entry-test.false) c.loop-entry.invariant.read
