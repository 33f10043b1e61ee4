-- Calls that read and then write, one after the other.
use Rattle.std.proofs.Common.{◌∙◌, Ok, Err, arith}
use Rattle.std.specs.Result.{IsErrOf}
use Rattle.bdb_keep.specs.Calls.{IsRead, IsWrite, IsUndo}
use Rattle.bdb_keep.specs.Seen.{Seen, GoesOn, NeverFall}
use Rattle.bdb_tables.proofs.Loops.{goes_then, counts_then, steps_ok, steps_err}
use Rattle.bdb_val.specs.Steps.{IsChanging}

-- a call went on: what is committed stays, a transaction that ran still runs, and no count fell
pub record HasGone (old new : Seen) : Type 0 where
  pub goes : GoesOn old new
  pub counts : NeverFall old new

pub gone_read : {T E : Type 0} (old new : Seen) (x : T) (fault : E) → IsRead {T = T} {E = E} old new (Ok x) fault → HasGone old new
gone_read old new x fault r = record { goes = r.steps.ok; counts = r.counts }

pub gone_write : {T E : Type 0} (old new : Seen) (x : T) (fault : E) → IsWrite {T = T} {E = E} old new (Ok x) fault → HasGone old new
gone_write old new x fault w = record { goes = w.steps.ok; counts = w.counts }

pub gone_changing : {T E : Type 0} (old new : Seen) (x : T) (fault : E) → IsChanging {T = T} {E = E} old new (Ok x) fault → HasGone old new
gone_changing old new x fault w = record { goes = w.steps.ok; counts = w.counts }

pub gone_then : (a b c : Seen) → HasGone a b → HasGone b c → HasGone a c
gone_then a b c g h = record { goes = goes_then a b c g.goes h.goes; counts = counts_then a b c g.counts h.counts }

pub changing_ok : {T E : Type 0} (old new : Seen) (x : T) (fault : E) → HasGone old new → IsChanging {T = T} {E = E} old new (Ok x) fault
changing_ok old new x fault g = record { counts = g.counts; steps = steps_ok old new x fault g.goes }

-- a read, a write or a call that does both refuses, after others that went on
module _ {T U E : Type 0} (old a b : Seen) (e fault : E) (g : HasGone old a) where
  pub changing_err_read : IsRead {T = T} {E = E} a b (Err e) fault → IsChanging {T = U} {E = E} old b (Err e) fault
  changing_err_read r = record { counts = counts_then old a b g.counts r.counts; steps = steps_err old a b e fault g.goes r.steps }

  pub changing_err_write : IsWrite {T = T} {E = E} a b (Err e) fault → IsChanging {T = U} {E = E} old b (Err e) fault
  changing_err_write w = record { counts = counts_then old a b g.counts w.counts; steps = steps_err old a b e fault g.goes w.steps }

  pub changing_err : IsChanging {T = T} {E = E} a b (Err e) fault → IsChanging {T = U} {E = E} old b (Err e) fault
  changing_err w = record { counts = counts_then old a b g.counts w.counts; steps = steps_err old a b e fault g.goes w.steps }

-- a call that undoes what others did, for another reason than a fault
pub changing_undone : {U E : Type 0} (old a b : Seen) (e fault : E) → HasGone old a → IsUndo a b → (IsErrOf {T = U} {E = E} (Err e) fault → ⊥) → IsChanging {T = U} {E = E} old b (Err e) fault
changing_undone old a b e fault g u bad = record {
  counts = counts_then old a b g.counts u.counts;
  steps = record {
    cause = record { later = omega (arith, g.goes.faults, u.counts.faults); rose = λ is. absurd (bad is) };
    ok = tt;
    err = record { stopped = u.dropped.stopped; undone = u.dropped.undone ∙ g.goes.last; last = u.dropped.last ∙ g.goes.last; commits = u.dropped.commits ∙ g.goes.commits };
  };
}
