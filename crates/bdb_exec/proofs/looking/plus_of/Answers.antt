use Rattle.std.proofs.Common.{ℕ, ◌+◌, ◌≤◌, false, get_or, sym, subst, arith}
use Rattle.std.proofs.lemmas.List.{get_or_default}
use Rattle.bdb_base.specs.declared.kinds.Sign.TheVariants.{Plus}
use Rattle.bdb_tables.specs.Marks.{Mark}
use Rattle.bdb_tables.specs.declared.tab.TabError.TheVariants.{Fault}
use Rattle.bdb_tables.proofs.Loops.{all_at_index, only_reads_more}
use Rattle.bdb_exec.specs.Memos.{Recalls}
use Rattle.bdb_exec.specs.Readable.{CanBeRun}
use Rattle.bdb_exec.specs.Rows.{HasTuple, HasPushed}
use Rattle.bdb_exec.proofs.WorldLemmas.{pushed_more}
use Rattle.bdb_exec.proofs.looking.plus_of.Goals as goal

-- what stands in where there is no row
abbrev none : ℕ × Mark
none = (0, (Plus, false))

pub push_plus-requires-clause-run : goal.push_plus-requires-clause-run
push_plus-requires-clause-run g c = subst CanBeRun (sym c.loop-entry.invariant.kept) c.requires.run

pub push_plus-requires-clause-memo : goal.push_plus-requires-clause-memo
push_plus-requires-clause-memo g c = subst (λ u. Recalls u c.loop-entry.memo) (sym c.loop-entry.invariant.kept) c.loop-entry.invariant.read.memo

pub push_plus-requires-clause-there : goal.push_plus-requires-clause-there
push_plus-requires-clause-there g c =
    let t = (g.K.Keeper.seen c.args.keeper.now).kept in
    let i = c.loop-entry.entry-index in
    let e = get_or c.args.entries.now i none in
    subst (λ u. HasTuple u e) (sym c.loop-entry.invariant.kept)
    (all_at_index (HasTuple t) c.args.entries.now i e c.loop-entry-test.true (get_or_default c.args.entries.now i none e c.loop-entry-test.true) c.requires.there)

pub loop-entry-preserved : goal.loop-entry-preserved
loop-entry-preserved g c =
    let old = g.K.Keeper.seen c.args.keeper.now in
    let now = g.K.Keeper.seen c.loop-entry.keeper in
    let new = g.K.Keeper.seen c.push_plus.new.keeper in
    let h = c.loop-entry.invariant in
    let i = c.loop-entry.entry-index in
    let e = get_or c.args.entries.now i none in
    let pushed : HasPushed old.kept e.0 e.1.0 c.loop-entry.tuples c.push_plus.new.tuples =
    subst (λ u. HasPushed u e.0 e.1.0 c.loop-entry.tuples c.push_plus.new.tuples) h.kept c.in-Ok.ensures.pushed in
    let reads : new.reads ≤ old.reads + (i + 1) = omega (arith, c.in-Ok.ensures.reads, h.read.reads) in
    only_reads_more old now new c.in-Ok.field-0 Fault h c.in-Ok.ensures.looks (record {
      tuples = pushed_more old.kept c.args.entries.now i e c.loop-entry.tuples c.push_plus.new.tuples c.loop-entry-test.true (get_or_default c.args.entries.now i none e c.loop-entry-test.true) h.read.tuples pushed;
      reads = reads;
      memo = subst (λ u. Recalls u c.push_plus.new.memo) h.kept c.in-Ok.ensures.memo;
    })
