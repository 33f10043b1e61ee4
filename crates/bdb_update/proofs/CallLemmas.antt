-- Calls one after the other.
use Rattle.std.proofs.Common.{◌≡◌, ◌∙◌, true, Ok, Err, refl, sym, arith}
use Rattle.std.proofs.lemmas.Bool.{false≢true}
use Rattle.bdb_keep.specs.Calls.{IsRead}
use Rattle.bdb_keep.specs.Seen.{Seen, GoesOn, IsAtRest, NeverFall}
use Rattle.bdb_tables.specs.Reading.{OnlyReads}
use Rattle.bdb_tables.proofs.Loops.{goes_then, counts_then, steps_ok, steps_err}
use Rattle.bdb_val.proofs.Calls.{HasGone}

pub gone_itself : (s : Seen) → HasGone s s
gone_itself s = record {
  goes = record { faults = omega arith; running = refl; last = refl; commits = refl };
  counts = record { faults = omega arith; reads = omega arith; writes = omega arith; commits = omega arith };
}

-- ---- reads while a transaction runs

-- nothing was written, and no count fell
pub record IsQuiet (old new : Seen) : Type 0 where
  pub goes : GoesOn old new
  pub kept : new.kept ≡ old.kept
  pub writes : new.writes ≡ old.writes
  pub counts : NeverFall old new

pub quiet_read : {T E : Type 0} (old new : Seen) (x : T) (fault : E) → IsRead {T = T} {E = E} old new (Ok x) fault → IsQuiet old new
quiet_read old new x fault r = record { goes = r.steps.ok; kept = r.kept; writes = r.writes; counts = r.counts }

-- one read after another, and one that refuses after another
pub read_then : {T U V E : Type 0} (a b c : Seen) (x : T) (y : U) (z : V) (fault : E) → IsRead {T = T} {E = E} a b (Ok x) fault → IsRead {T = U} {E = E} b c (Ok y) fault → IsRead {T = V} {E = E} a c (Ok z) fault
read_then a b c x y z fault r s = record {
  rest = r.rest;
  kept = s.kept ∙ r.kept;
  writes = s.writes ∙ r.writes;
  counts = counts_then a b c r.counts s.counts;
  steps = steps_ok a c z fault (goes_then a b c r.steps.ok s.steps.ok);
}

pub read_then_err : {T U V E : Type 0} (a b c : Seen) (x : T) (e fault : E) → IsRead {T = T} {E = E} a b (Ok x) fault → IsRead {T = U} {E = E} b c (Err e) fault → IsRead {T = V} {E = E} a c (Err e) fault
read_then_err a b c x e fault r s = record {
  rest = r.rest;
  kept = tt;
  writes = s.writes ∙ r.writes;
  counts = counts_then a b c r.counts s.counts;
  steps = steps_err a b c e fault r.steps.ok s.steps;
}

pub quiet_then : (a b c : Seen) → IsQuiet a b → IsQuiet b c → IsQuiet a c
quiet_then a b c g h = record { goes = goes_then a b c g.goes h.goes; kept = h.kept ∙ g.kept; writes = h.writes ∙ g.writes; counts = counts_then a b c g.counts h.counts }

at_work : (s : Seen) → s.running ≡ true → IsAtRest s
at_work s e f = absurd (false≢true (sym f ∙ e))

pub read_ok : {T E : Type 0} (old new : Seen) (x : T) (fault : E) → old.running ≡ true → IsQuiet old new → IsRead {T = T} {E = E} old new (Ok x) fault
read_ok old new x fault e q = record { rest = at_work old e; kept = q.kept; writes = q.writes; counts = q.counts; steps = steps_ok old new x fault q.goes }

pub read_err : {T U E : Type 0} (old a b : Seen) (e fault : E) → old.running ≡ true → IsQuiet old a → IsRead {T = T} {E = E} a b (Err e) fault → IsRead {T = U} {E = E} old b (Err e) fault
read_err old a b e fault run q r = record {
  rest = at_work old run;
  kept = tt;
  writes = r.writes ∙ q.writes;
  counts = counts_then old a b q.counts r.counts;
  steps = steps_err old a b e fault q.goes r.steps;
}

-- the same after a call that only reads
pub looks_err : {T U E : Type 0} (old a b : Seen) (e fault : E) → old.running ≡ true → IsQuiet old a → OnlyReads {T = T} {E = E} a b (Err e) fault → IsRead {T = U} {E = E} old b (Err e) fault
looks_err old a b e fault run q r = record {
  rest = at_work old run;
  kept = tt;
  writes = r.writes ∙ q.writes;
  counts = counts_then old a b q.counts r.counts;
  steps = steps_err old a b e fault q.goes r.steps;
}

pub quiet_itself : (s : Seen) → IsQuiet s s
quiet_itself s = let g = gone_itself s in record { goes = g.goes; kept = refl; writes = refl; counts = g.counts }

pub quiet_gone : (a b : Seen) → IsQuiet a b → HasGone a b
quiet_gone a b q = record { goes = q.goes; counts = q.counts }
