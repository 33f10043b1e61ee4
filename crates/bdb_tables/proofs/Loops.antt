-- What a loop of reads or of writes over a keeper keeps, one call more, and what it ends with.
use Rattle.std.proofs.Common.{◌≡◌, ℕ, zero, suc, ◌+◌, ◌<◌, ◌≤◌, List, [], ◌∷◌, ◌++◌, length, take, drop, get_or, Option, Ok, Err, sym, ap, subst, ◌∙◌, arith}
use Rattle.std.specs.List.{AllByRecursion}
use Rattle.std.proofs.lemmas.List.{drop_more, take_more}
use Rattle.bdb_base.specs.Causes.{Rises, RoseBy}
use Rattle.bdb_base.proofs.CauseLemmas.{rose_later}
use Rattle.bdb_keep.specs.Calls.{IsRead, IsWrite}
use Rattle.bdb_keep.specs.Seen.{Seen, IsAtRest, NeverFall, GoesOn, Steps}
use Rattle.bdb_keep.specs.Tables.{Tables}
use Rattle.bdb_key.proofs.Readings.{all_push}
use Rattle.bdb_tables.specs.Codec.{Codec}
use Rattle.bdb_tables.specs.Writes.{with_change, with_changes}
use Rattle.bdb_tables.specs.Reading.{OnlyReads}

-- nothing has changed but counts, and this much is read
pub record IsReading (old new : Seen) (Read : Type 0) : Type 0 where
  pub goes : GoesOn old new
  pub kept : new.kept ≡ old.kept
  pub writes : new.writes ≡ old.writes
  pub counts : NeverFall old new
  pub read : Read

-- nothing has been read, and this much is written
pub record IsWriting (old new : Seen) (Written : Type 0) : Type 0 where
  pub goes : GoesOn old new
  pub reads : new.reads ≡ old.reads
  pub counts : NeverFall old new
  pub written : Written

-- ---- one call after another

pub goes_then : (a b c : Seen) → GoesOn a b → GoesOn b c → GoesOn a c
goes_then a b c g h = record { faults = omega (arith, g.faults, h.faults); running = h.running ∙ g.running; last = h.last ∙ g.last; commits = h.commits ∙ g.commits }

pub counts_then : (a b c : Seen) → NeverFall a b → NeverFall b c → NeverFall a c
counts_then a b c g h = record {
  faults = omega (arith, g.faults, h.faults);
  reads = omega (arith, g.reads, h.reads);
  writes = omega (arith, g.writes, h.writes);
  commits = omega (arith, g.commits, h.commits);
}

-- a call that refuses, after others that went on
pub steps_err : {T U E : Type 0} (old a b : Seen) (e fault : E) → GoesOn old a → Steps {T = T} {E = E} a b (Err e) fault → Steps {T = U} {E = E} old b (Err e) fault
steps_err old a b e fault g s = record {
  cause = record { later = omega (arith, g.faults, s.cause.later); rose = λ is. rose_later old.faults a.faults b.faults g.faults (s.cause.rose (let same : e ≡ fault = cc in ap Err same)) };
  ok = tt;
  err = record { stopped = s.err.stopped; undone = s.err.undone ∙ g.last; last = s.err.last ∙ g.last; commits = s.err.commits ∙ g.commits };
}

pub steps_ok : {T E : Type 0} (old new : Seen) (x : T) (fault : E) → GoesOn old new → Steps {T = T} {E = E} old new (Ok x) fault
steps_ok old new x fault g = record { cause = record { later = g.faults; rose = λ is. absurd cc }; ok = g; err = tt }

module _ {P : Type 0} where
  pub writing_ok : {T E : Type 0} (old new : Seen) (x : T) (fault : E) → IsWriting old new P → IsWrite {T = T} {E = E} old new (Ok x) fault
  writing_ok old new x fault h = record { reads = h.reads; counts = h.counts; steps = steps_ok old new x fault h.goes }

  pub writing_err : {T U E : Type 0} (old a b : Seen) (e fault : E) → IsWriting old a P → IsWrite {T = T} {E = E} a b (Err e) fault → IsWrite {T = U} {E = E} old b (Err e) fault
  writing_err old a b e fault h w = record { reads = w.reads ∙ h.reads; counts = counts_then old a b h.counts w.counts; steps = steps_err old a b e fault h.goes w.steps }

  pub writing_more : {T E Q : Type 0} (old a b : Seen) (x : T) (fault : E) → IsWriting old a P → IsWrite {T = T} {E = E} a b (Ok x) fault → Q → IsWriting old b Q
  writing_more old a b x fault h w q = record { goes = goes_then old a b h.goes w.steps.ok; reads = w.reads ∙ h.reads; counts = counts_then old a b h.counts w.counts; written = q }

  -- where the rows are at rest now, and nothing has changed, they were before
  pub rest_before : (old a : Seen) → IsReading old a P → IsAtRest a → IsAtRest old
  rest_before old a h rest stopped = sym h.kept ∙ rest (h.goes.running ∙ stopped) ∙ h.goes.last

  -- the last of the reads
  pub reading_ends : {T U E : Type 0} (old a b : Seen) (x : T) (y : U) (fault : E) → IsReading old a P → IsRead {T = T} {E = E} a b (Ok x) fault → IsRead {T = U} {E = E} old b (Ok y) fault
  reading_ends old a b x y fault h r = record {
    rest = rest_before old a h r.rest;
    kept = r.kept ∙ h.kept;
    writes = r.writes ∙ h.writes;
    counts = counts_then old a b h.counts r.counts;
    steps = steps_ok old b y fault (goes_then old a b h.goes r.steps.ok);
  }

  pub reading_err : {T U E : Type 0} (old a b : Seen) (e fault : E) → IsReading old a P → IsRead {T = T} {E = E} a b (Err e) fault → IsRead {T = U} {E = E} old b (Err e) fault
  reading_err old a b e fault h r = record {
    rest = rest_before old a h r.rest;
    kept = tt;
    writes = r.writes ∙ h.writes;
    counts = counts_then old a b h.counts r.counts;
    steps = steps_err old a b e fault h.goes r.steps;
  }

  pub reading_more : {T E Q : Type 0} (old a b : Seen) (x : T) (fault : E) → IsReading old a P → IsRead {T = T} {E = E} a b (Ok x) fault → Q → IsReading old b Q
  reading_more old a b x fault h r q = record {
    goes = goes_then old a b h.goes r.steps.ok;
    kept = r.kept ∙ h.kept;
    writes = r.writes ∙ h.writes;
    counts = counts_then old a b h.counts r.counts;
    read = q;
  }

-- one more of a count that rises
pub rises_more : (n a b c : ℕ) → b ≤ c → Rises n a b → RoseBy 1 b c → Rises (n + 1) a c
rises_more n a b c le r one below =
    let e : c ≡ b + 1 = omega arith in
    let f : b ≡ a + n = r (omega arith) in
    omega arith

-- ---- lists that a loop goes over

pub all_at_index : {X : Type 0} (P : X → Type 0) (xs : List X) (i : ℕ) (x : X) → i < length xs → x ≡ get_or xs i x → AllByRecursion P xs → P x
all_at_index P [] i x lt e h = absurd (omega arith)
all_at_index P (y ∷ xs) zero x lt e h = subst P (sym e) h.0
all_at_index P (y ∷ xs) (suc i) x lt e h = all_at_index P xs i x (omega arith) e h.1

pub all_take_more : {X : Type 0} (P : X → Type 0) (xs : List X) (i : ℕ) (x : X) → i < length xs → x ≡ get_or xs i x → AllByRecursion P (take i xs) → P x → AllByRecursion P (take (i + 1) xs)
all_take_more P xs i x lt e h p =
    subst (AllByRecursion P) (sym (take_more xs i x lt ∙ ap (λ y. take i xs ++ y ∷ []) (sym e))) (all_push P (take i xs) x h p)

-- the changes that are left after one more
pub changes_left : {Key Row : Type 0} (c : Codec Key Row) (t u : Tables) (xs : List (Key × Option Row)) (i : ℕ) (x : Key × Option Row)
    → i < length xs → x ≡ get_or xs i x → u ≡ with_change c t x → with_changes c u (drop (i + 1) xs) ≡ with_changes c t (drop i xs)
changes_left c t u xs i x lt e made =
    ap (λ v. with_changes c v (drop (i + 1) xs)) made
    ∙ sym (ap (with_changes c t) (drop_more xs i x lt ∙ ap (λ y. y ∷ drop (i + 1) xs) (sym e)))

-- calls that only read, one more
pub only_reads_more : {P T E Q : Type 0} (old a b : Seen) (x : T) (fault : E) → IsReading old a P → OnlyReads {T = T} {E = E} a b (Ok x) fault → Q → IsReading old b Q
only_reads_more old a b x fault h r q = record {
  goes = goes_then old a b h.goes r.steps.ok;
  kept = r.kept ∙ h.kept;
  writes = r.writes ∙ h.writes;
  counts = counts_then old a b h.counts r.counts;
  read = q;
}

-- a call that refuses, whatever it were to answer
pub err_steps : {T U E : Type 0} (old new : Seen) (e fault : E) → Steps {T = T} {E = E} old new (Err e) fault → Steps {T = U} {E = E} old new (Err e) fault
err_steps old new e fault h =
    record { cause = record { later = h.cause.later; rose = λ is. h.cause.rose (let same : e ≡ fault = cc in ap Err same) }; ok = tt; err = h.err }

pub read_answers : {T U E : Type 0} (old new : Seen) (x : T) (y : U) (fault : E) → IsRead {T = T} {E = E} old new (Ok x) fault → IsRead {T = U} {E = E} old new (Ok y) fault
read_answers old new x y fault r = record { rest = r.rest; kept = r.kept; writes = r.writes; counts = r.counts; steps = steps_ok old new y fault r.steps.ok }
