-- What decoding tables of any bytes tells, and how it ends.
use Rattle.std.specs.Prelude.{◌≡◌, ◌⊎◌, ℕ, Result, Ok, Err}
use Rattle.std.specs.FinMap as tables
use Rattle.bdb_base.specs.Bases.{Contents}
use Rattle.bdb_base.specs.Causes.{HasCause}
use Rattle.bdb_tables.specs.Raw.{Stays}
use Rattle.bdb_catalog.specs.Bases.{StoresValid}
use Rattle.bdb_catalog.specs.Opening.{StandFor, StoredFormerly}
use Rattle.bdb_entries.specs.Format.{HasFormat}
use Rattle.bdb_decode.specs.declared.opening.OpenError.{OpenError}
use Rattle.bdb_decode.specs.declared.opening.OpenError.TheVariants.{Damaged, Format, Fault, Memory}
use Rattle.bdb_decode.specs.declared.opening.Stand.{Stand}
use Rattle.bdb_decode.specs.declared.opening.Stand.TheVariants.{Empty, Stored, Former}
use Rattle.bdb_keep.specs.Seen.{Seen, IsAtRest, IsDropped, NeverFall}
use Rattle.bdb_keep.specs.Tables.{Tables}

-- how tables stand for a base: they have no row, or store it in this format, or in the one before it
abbrev pub TellsStand : Tables → Stand → Type 0
TellsStand t Empty = t ≡ tables.empty
TellsStand t (Stored b) = StoresValid t b
TellsStand t (Former b) = StoredFormerly t b

-- tables stand for no base, and have no other format than this one and the one before it
pub record AreDamaged (t : Tables) : Type 0 where
  pub none : (b : Contents) → StandFor t b → ⊥
  pub format : (n : ℕ) → HasFormat t n → (n ≡ 2) ⊎ (n ≡ 3)

-- tables have another format than this one and the one before it; so they stand for no base
pub record HaveOtherFormat (t : Tables) (n : ℕ) : Type 0 where
  pub has : HasFormat t n
  pub other : n ≡ 3 → ⊥
  pub former : n ≡ 2 → ⊥
  pub none : (b : Contents) → StandFor t b → ⊥

-- what a call that reads tables of any bytes leaves: only where the keeper or memory failed no transaction runs
abbrev pub LeavesRead : {T : Type 0} → Seen → Seen → Result T OpenError → Type 0
LeavesRead old new (Ok _) = Stays old new
LeavesRead old new (Err Damaged) = Stays old new
LeavesRead old new (Err (Format _)) = Stays old new
LeavesRead old new (Err Fault) = IsDropped old new
LeavesRead old new (Err Memory) = IsDropped old new

-- How such a call ends: nothing is written, and it tells a fault only where the keeper's count rose.
pub record EndsReading {T : Type 0} (old new : Seen) (result : Result T OpenError) : Type 0 where
  pub rest : IsAtRest old
  pub leaves : LeavesRead old new result
  pub writes : new.writes ≡ old.writes
  pub counts : NeverFall old new
  pub cause : HasCause old.faults new.faults result Fault
