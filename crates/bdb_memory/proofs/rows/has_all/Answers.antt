use Rattle.std.proofs.Common.{refl, sym, subst}
use Rattle.bdb_memory.specs.Entries.{rows_of, IsAmong}
use Rattle.bdb_memory.proofs.WithinLemmas.{among-at, among-more}
use Rattle.bdb_memory.proofs.rows.has_all.Goals as goal

pub returns-then-not-has_same : goal.returns-then-not-has_same
returns-then-not-has_same c =
    let t = rows_of c.args.others.now in (
      λ e. absurd (cc),
      λ all. c.if-not-has_same.ensures.1 (subst (IsAmong t) (sym c.entry-item.is) (among-at t c.args.entries.now c.loop-entry.entry-index c.entry-item.result all c.loop-entry-test.true)),
    )

pub loop-entry-preserved : goal.loop-entry-preserved
loop-entry-preserved c =
    let t = rows_of c.args.others.now in
    among-more t c.args.entries.now c.loop-entry.entry-index c.entry-item.result c.loop-entry-test.true c.loop-entry.invariant (subst (IsAmong t) c.entry-item.is (c.if-not-has_same.ensures.0 refl))
