-- How a transaction ends: it isn't begun, a step within it is refused, it isn't committed, or it is.
use Rattle.std.proofs.Common.{◌≡◌, ◌∙◌, Ok, Err, sym, ap, arith}
use Rattle.bdb_base.proofs.CauseLemmas.{rose_later}
use Rattle.bdb_keep.specs.Calls.{IsBegin, IsCommit}
use Rattle.bdb_keep.specs.Seen.{Seen, IsStill, NeverFall, IsDropped, Steps}
use Rattle.bdb_tables.proofs.Loops.{counts_then}
use Rattle.bdb_tables.specs.declared.tab.TabError.{TabError}
use Rattle.bdb_tables.specs.declared.tab.TabError.TheVariants as tab
use Rattle.bdb_session.specs.declared.error.StopError.{StopError}
use Rattle.bdb_session.specs.declared.error.StopError.TheVariants.{Fault}
use Rattle.bdb_session.specs.Committing.{IsCommitted}
use Rattle.bdb_session.proofs.WithinLemmas.{dropped_is_unchanged, dropped_is_still}

pub not_begun : {T : Type 0} (old new : Seen) (stop : StopError) → IsStill old → IsBegin {T = T} old new (Err stop) Fault → IsCommitted {T = T} old new (Err stop) Fault
not_begun old new stop still b = record {
  commits = tt;
  still = dropped_is_still old new b.err;
  never_fall = b.counts;
  cause = b.cause;
  err = dropped_is_unchanged old new still b.err;
}

module _ {T U V : Type 0} where
  pub not_made : (old begun made : Seen) (x : U) (e : TabError) (stop : StopError) → IsStill old → IsBegin {T = U} old begun (Ok x) Fault → NeverFall begun made
      → Steps {T = V} begun made (Err e) tab.Fault → (stop ≡ Fault → e ≡ tab.Fault) → IsCommitted {T = T} old made (Err stop) Fault
  not_made old begun made x e stop still b fall s from =
      let dropped : IsDropped old made = record { stopped = s.err.stopped; undone = s.err.undone ∙ b.last; last = s.err.last ∙ b.last; commits = s.err.commits ∙ b.commits } in
      let falls = counts_then old begun made b.counts fall in
      record {
        commits = tt;
        still = dropped_is_still old made dropped;
        never_fall = falls;
        cause = record {
          later = falls.faults;
          rose = λ is. rose_later old.faults begun.faults made.faults b.counts.faults (s.cause.rose (let same : stop ≡ Fault = cc in ap Err (from same)));
        };
        err = dropped_is_unchanged old made still dropped;
      }

  pub not_committed : (old begun made new : Seen) (x : U) (y : V) (stop : StopError) → IsStill old → IsBegin {T = U} old begun (Ok x) Fault → NeverFall begun made
      → Steps {T = V} begun made (Ok y) tab.Fault → IsCommit {T = T} made new (Err stop) Fault → IsCommitted {T = T} old new (Err stop) Fault
  not_committed old begun made new x y stop still b fall s c =
      let dropped : IsDropped old new = record {
        stopped = c.err.stopped;
        undone = c.err.undone ∙ s.ok.last ∙ b.last;
        last = c.err.last ∙ s.ok.last ∙ b.last;
        commits = c.err.commits ∙ s.ok.commits ∙ b.commits;
      } in
      let before = counts_then old begun made b.counts fall in
      let falls = counts_then old made new before c.counts in
      record {
        commits = tt;
        still = dropped_is_still old new dropped;
        never_fall = falls;
        cause = record { later = falls.faults; rose = λ is. rose_later old.faults made.faults new.faults before.faults (c.cause.rose is) };
        err = dropped_is_unchanged old new still dropped;
      }

  pub committed : (old begun made new : Seen) (x : U) (y : V) (z : T) → IsBegin {T = U} old begun (Ok x) Fault → NeverFall begun made
      → Steps {T = V} begun made (Ok y) tab.Fault → IsCommit {T = T} made new (Ok z) Fault → IsCommitted {T = T} old new (Ok z) Fault
  committed old begun made new x y z b fall s c =
      let falls = counts_then old made new (counts_then old begun made b.counts fall) c.counts in
      record {
        commits = λ low. let e = s.ok.commits in let f = b.commits in let r = c.commits in omega arith;
        still = record { stopped = c.stopped; rest = c.kept ∙ sym c.last };
        never_fall = falls;
        cause = record { later = falls.faults; rose = λ is. absurd cc };
        err = tt;
      }

-- the same with another result
pub committed_ok : {T U : Type 0} (old new : Seen) (x : T) (y : U) → IsCommitted {T = T} old new (Ok x) Fault → IsCommitted {T = U} old new (Ok y) Fault
committed_ok old new x y h =
    record { commits = h.commits; still = h.still; never_fall = h.never_fall; cause = record { later = h.cause.later; rose = λ is. absurd cc }; err = tt }

pub committed_err : {T U : Type 0} (old new : Seen) (stop : StopError) → IsCommitted {T = T} old new (Err stop) Fault → IsCommitted {T = U} old new (Err stop) Fault
committed_err old new stop h = record {
  commits = tt;
  still = h.still;
  never_fall = h.never_fall;
  cause = record { later = h.cause.later; rose = λ is. h.cause.rose (let same : stop ≡ Fault = cc in ap Err same) };
  err = h.err;
}
