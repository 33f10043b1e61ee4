-- Rows that are read from tables of any bytes.
use Rattle.std.specs.Prelude.{◌≡◌, ℕ, Bool, true, false, not, List, Result, Ok, Err}
use Rattle.std.specs.Bool.{MatchBool}
use Rattle.bdb_base.specs.Causes.{HasCause}
use Rattle.bdb_keep.specs.Seen.{Seen, GoesOn, IsAtRest, IsDropped, NeverFall}
use Rattle.bdb_keep.specs.Tables.{Tables, IsLeastFrom}
use Rattle.bdb_tables.specs.Codec.{Codec, IsEntryOf}
use Rattle.bdb_tables.specs.declared.raw.RawError.{RawError}
use Rattle.bdb_tables.specs.declared.raw.RawError.TheVariants.{NotARow, Fault, Memory}

module _ {Key Row : Type 0} where
  -- the first key from `low` on, or its row, is none of the table
  pub record IsForeignFrom (c : Codec Key Row) (t : Tables) (low : List ℕ) : Type 0 where
    pub key : List ℕ
    pub row : List ℕ
    pub least : IsLeastFrom t c.number low key row
    pub foreign : IsEntryOf c key row → ⊥

-- an error after which no transaction runs
abbrev pub stops : RawError → Bool
stops NotARow = false
stops Fault = true
stops Memory = true

-- an answer after which the keeper is as it was
abbrev pub leaves : {T : Type 0} → Result T RawError → Bool
leaves (Ok x) = true
leaves (Err e) = not (stops e)

-- the rows and what is committed are as before, and a transaction that ran still runs
pub record Stays (old new : Seen) : Type 0 where
  pub kept : new.kept ≡ old.kept
  pub goes : GoesOn old new

-- How a reading of any bytes ends: nothing is written. Bytes that are no row leave the keeper as an Ok does.
pub record IsRawRead {T : Type 0} (old new : Seen) (result : Result T RawError) : Type 0 where
  pub rest : IsAtRest old
  pub writes : new.writes ≡ old.writes
  pub counts : NeverFall old new
  pub cause : HasCause old.faults new.faults result Fault
  pub ends : MatchBool (leaves result) (Stays old new) (IsDropped old new)
