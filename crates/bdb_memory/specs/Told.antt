-- What a ledger tells of itself: what every keeper tells, and the places changed since the rows were last committed.
use Rattle.std.specs.Prelude.{◌≡◌, ℕ, false, List, Result, IfErr, refl}
use Rattle.std.specs.Coded.{Coded, code_by, coded×, coded_ℕ, coded_list}
use Rattle.bdb_keep.specs.Seen.{Seen, coded_seen}
use Rattle.bdb_keep.specs.Tables.{LieInTables}
use Rattle.bdb_keep.specs.declared.keeper.KeepError.{KeepError}
use Rattle.bdb_keep.specs.declared.keeper.KeepError.TheVariants.{Memory}

-- what every keeper tells, and the places changed since, each once or more
pub record Told : Type 0 where
  pub seen : Seen
  pub changes : List (List ℕ)

-- what a ledger tells as plain data
abbrev pub coded_told : Coded Told
coded_told = code_by (Seen × List (List ℕ)) (coded× coded_seen (coded_list (coded_list coded_ℕ)))
    (λ t. (t.seen, t.changes)) (λ p. record { seen = p.0; changes = p.1 }) (λ _. refl)

-- a call is refused only where memory runs out, and counts no fault
pub record HasNoFault {T : Type 0} (old new : Seen) (result : Result T KeepError) : Type 0 where
  pub memory : IfErr result (λ error. error ≡ Memory)
  pub faults : new.faults ≡ old.faults

-- what holds of a ledger at all times: where nothing runs the rows are those last committed, and each is in a table 1 to 15
pub record IsSound (seen : Seen) : Type 0 where
  pub rest : seen.running ≡ false → seen.kept ≡ seen.last
  pub kept : LieInTables seen.kept
  pub last : LieInTables seen.last
