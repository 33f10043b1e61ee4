-- What a keeper that fails where it is told to tells of itself.
use Rattle.std.specs.Prelude.{◌≡◌, ℕ, Bool, true, false, List, Result, Ok, Err, refl}
use Rattle.std.specs.Coded.{Coded, code_by, coded×, coded_ℕ, coded_list}
use Rattle.bdb_base.specs.Causes.{number_of_next, is_listed}
use Rattle.bdb_keep.specs.Seen.{Seen, coded_seen}
use Rattle.bdb_keep.specs.declared.keeper.KeepError.{KeepError}
use Rattle.bdb_keep.specs.declared.keeper.KeepError.TheVariants.{Fault, Memory}

-- what every keeper tells, how many calls were made, and the numbers of the calls that fail
pub record Struck : Type 0 where
  pub seen : Seen
  pub calls : ℕ
  pub fails : List ℕ

-- what such a keeper tells as plain data
abbrev pub coded_struck : Coded Struck
coded_struck = code_by (Seen × (ℕ × List ℕ)) (coded× coded_seen (coded× coded_ℕ (coded_list coded_ℕ)))
    (λ s. (s.seen, (s.calls, s.fails))) (λ p. record { seen = p.0; calls = p.1.0; fails = p.1.1 }) (λ _. refl)

-- whether a call answered that the store failed
abbrev pub is_fault : {T : Type 0} → Result T KeepError → Bool
is_fault (Ok x) = false
is_fault (Err Fault) = true
is_fault (Err Memory) = false

-- a call is counted, and answers a fault exactly where its number is listed
pub record Counted {T : Type 0} (old new : Struck) (result : Result T KeepError) : Type 0 where
  pub calls : new.calls ≡ number_of_next old.calls
  pub fails : new.fails ≡ old.fails
  pub fault : is_fault result ≡ is_listed (number_of_next old.calls) old.fails
