-- How calls end that are made of several calls.
use Rattle.std.proofs.Common.{◌≡◌, ◌∙◌, Ok, Err, arith}
use Rattle.std.specs.Result.{IsErrOf}
use Rattle.bdb_base.proofs.CauseLemmas.{rose_later}
use Rattle.bdb_keep.specs.Calls.{IsUndo}
use Rattle.bdb_keep.specs.Seen.{Seen, GoesOn, IsDropped, Steps}

err_again : {A B E : Type 0} {x y : E} → IsErrOf {T = A} (Err x) y → IsErrOf {T = B} (Err x) y
err_again h = cc

dropped_then : (a b c : Seen) → GoesOn a b → IsDropped b c → IsDropped a c
dropped_then a b c h k = record { stopped = k.stopped; undone = k.undone ∙ h.last; last = k.last ∙ h.last; commits = k.commits ∙ h.commits }

-- a call that goes on, and then one that is refused
pub steps_err : {T U E : Type 0} (a b c : Seen) (e f : E) → GoesOn a b → Steps {T = T} b c (Err e) f → Steps {T = U} a c (Err e) f
steps_err {T} {U} a b c e f h k = record {
  cause = record { later = let x = h.faults in let y = k.cause.later in omega arith; rose = λ x. rose_later a.faults b.faults c.faults h.faults (k.cause.rose (err_again {A = U} {B = T} x)) };
  ok = tt;
  err = dropped_then a b c h k.err;
}

not_err : {T E : Type 0} (x : T) (f : E) → IsErrOf (Ok x) f → ⊥
not_err x f h = cc

-- calls that go on
pub steps_ok : {T E : Type 0} (a c : Seen) (x : T) (f : E) → GoesOn a c → Steps a c (Ok x) f
steps_ok a c x f h = record { cause = record { later = h.faults; rose = λ e. absurd (not_err x f e) }; ok = h; err = tt }

-- calls that go on, and then an end by hand
pub steps_undone : {T E : Type 0} (a b c : Seen) (e f : E) → (e ≡ f → ⊥) → GoesOn a b → IsUndo b c → Steps {T = T} a c (Err e) f
steps_undone {T} a b c e f other h u = record {
  cause = record { later = let x = h.faults in let y = u.faults in omega arith; rose = λ x. absurd (other (same_err x)) };
  ok = tt;
  err = dropped_then a b c h u.dropped;
}
  where
    same_err : IsErrOf {T = T} (Err e) f → e ≡ f
    same_err x = cc
