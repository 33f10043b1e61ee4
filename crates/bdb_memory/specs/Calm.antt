-- What a keeper that has no faults tells of itself.
use Rattle.std.specs.Prelude.{ℕ, Bool, refl}
use Rattle.std.specs.Coded.{Coded, code_by, coded×, coded_ℕ, coded_bool}
use Rattle.bdb_keep.specs.Seen.{Seen}
use Rattle.bdb_keep.specs.Tables.{Tables, coded_tables}

-- what every keeper tells but the count of faults
pub record Calm : Type 0 where
  pub kept : Tables
  pub last : Tables
  pub running : Bool
  pub reads : ℕ
  pub writes : ℕ
  pub commits : ℕ

-- what such a keeper tells as plain data
abbrev pub coded_calm : Coded Calm
coded_calm =
    code_by (Tables × (Tables × (Bool × (ℕ × (ℕ × ℕ))))) (coded× coded_tables (coded× coded_tables (coded× coded_bool (coded× coded_ℕ (coded× coded_ℕ coded_ℕ)))))
    (λ s. (s.kept, (s.last, (s.running, (s.reads, (s.writes, s.commits))))))
    (λ p. record { kept = p.0; last = p.1.0; running = p.1.1.0; reads = p.1.1.1.0; writes = p.1.1.1.1.0; commits = p.1.1.1.1.1 })
    (λ _. refl)

-- its count of faults is always 0
abbrev pub seen_of : Calm → Seen
seen_of c = record { kept = c.kept; last = c.last; running = c.running; faults = 0; reads = c.reads; writes = c.writes; commits = c.commits }

-- what it tells without that count
abbrev pub calm_of : Seen → Calm
calm_of s = record { kept = s.kept; last = s.last; running = s.running; reads = s.reads; writes = s.writes; commits = s.commits }
