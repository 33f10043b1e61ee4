-- What a keeper tells of itself, and the words for how a call changes it.
use Rattle.std.specs.Prelude.{◌≡◌, ℕ, ◌≤◌, Bool, false, Result, OnOk, OnErr, refl}
use Rattle.std.specs.Coded.{Coded, code_by, coded×, coded_ℕ, coded_bool}
use Rattle.bdb_base.specs.Causes.{HasCause}
use Rattle.bdb_keep.specs.Tables.{Tables, coded_tables}

-- the rows as they read now, the rows last committed, whether a transaction runs, and four counts that never fall
pub record Seen : Type 0 where
  pub kept : Tables
  pub last : Tables
  pub running : Bool
  pub faults : ℕ
  pub reads : ℕ
  pub writes : ℕ
  pub commits : ℕ

-- what a keeper tells as plain data
abbrev pub coded_seen : Coded Seen
coded_seen =
    code_by (Tables × (Tables × (Bool × (ℕ × (ℕ × (ℕ × ℕ))))))
    (coded× coded_tables (coded× coded_tables (coded× coded_bool (coded× coded_ℕ (coded× coded_ℕ (coded× coded_ℕ coded_ℕ))))))
    (λ s. (s.kept, (s.last, (s.running, (s.faults, (s.reads, (s.writes, s.commits)))))))
    (λ p. record { kept = p.0; last = p.1.0; running = p.1.1.0; faults = p.1.1.1.0; reads = p.1.1.1.1.0; writes = p.1.1.1.1.1.0; commits = p.1.1.1.1.1.1 })
    (λ _. refl)

-- where nothing runs, the rows are those last committed
abbrev pub IsAtRest : Seen → Type 0
IsAtRest s = s.running ≡ false → s.kept ≡ s.last

-- nothing runs, and the rows are those last committed
pub record IsStill (s : Seen) : Type 0 where
  pub stopped : s.running ≡ false
  pub rest : s.kept ≡ s.last

-- no count falls
pub record NeverFall (old new : Seen) : Type 0 where
  pub faults : old.faults ≤ new.faults
  pub reads : old.reads ≤ new.reads
  pub writes : old.writes ≤ new.writes
  pub commits : old.commits ≤ new.commits

-- the rows, the rows last committed and the count of commits are as before
pub record Unchanged (old new : Seen) : Type 0 where
  pub kept : new.kept ≡ old.kept
  pub last : new.last ≡ old.last
  pub commits : new.commits ≡ old.commits

-- nothing runs, and the rows are those last committed, which stay
pub record IsDropped (old new : Seen) : Type 0 where
  pub stopped : new.running ≡ false
  pub undone : new.kept ≡ old.last
  pub last : new.last ≡ old.last
  pub commits : new.commits ≡ old.commits

-- what is committed stays, and a transaction that ran still runs
pub record GoesOn (old new : Seen) : Type 0 where
  pub faults : old.faults ≤ new.faults
  pub running : new.running ≡ old.running
  pub last : new.last ≡ old.last
  pub commits : new.commits ≡ old.commits

-- How a call that is made of keeper calls ends. It tells a fault only where the count of faults rose.
-- After an Ok a transaction that ran still runs, and after any Err none does. What is committed stays.
pub record Steps {T E : Type 0} (old new : Seen) (result : Result T E) (fault : E) : Type 0 where
  pub cause : HasCause old.faults new.faults result fault
  pub ok : OnOk result (GoesOn old new)
  pub err : OnErr result (IsDropped old new)
