-- What checking tables tells.
use Rattle.std.specs.Prelude.{◌≡◌, ◌≢◌, ◌⊎◌, ℕ, List, [], take, Option, codes}
use Rattle.std.specs.Io.KnownBytes.{Appends}
use Rattle.bdb_catalog.specs.Opening.{StandForSome}
use Rattle.bdb_decode.specs.Opening.{AreDamaged, HaveOtherFormat}
use Rattle.bdb_keep.specs.Seen.{Seen, Unchanged}
use Rattle.bdb_keep.specs.Tables.{Tables}
use Rattle.bdb_top.specs.Lines.{line_with}
use Rattle.bdb_top.specs.declared.check.Verdict.{Verdict}
use Rattle.bdb_top.specs.declared.check.Verdict.TheVariants.{Sound, Damaged, Format}

-- the rows, the rows last committed and the count of commits are as before, and nothing was written
pub record IsUntouched (old new : Seen) : Type 0 where
  pub unchanged : Unchanged old new
  pub unwritten : new.writes ≡ old.writes

-- the line that tells a verdict
abbrev pub verdict_line : Verdict → List ℕ
verdict_line Sound = codes "ok\n"
verdict_line Damaged = codes "error damaged\n"
verdict_line (Format n) = line_with (codes "error format ") n

-- the status that tells a verdict
abbrev pub verdict_status : Verdict → ℕ
verdict_status Sound = 0
verdict_status Damaged = 7
verdict_status (Format n) = 7

-- a verdict holds of tables: they stand for a base, or for none, or have another format; no two of these hold of the same tables
abbrev pub IsVerdict : Tables → Verdict → Type 0
IsVerdict t Sound = StandForSome t
IsVerdict t Damaged = AreDamaged t
IsVerdict t (Format n) = HaveOtherFormat t n

-- A verdict that holds of the tables is told by its status, and its line is written; but where the sink failed perhaps a front of the line alone.
pub record IsVerdictTold (t : Tables) (old new : Option (List ℕ)) (status : ℕ) : Type 0 where
  pub verdict : Verdict
  pub holds : IsVerdict t verdict
  pub whole : status ≢ 4 → (status ≡ verdict_status verdict) × Appends old new (verdict_line verdict)
  pub part : status ≡ 4 → (n : ℕ) × Appends old new (take n (verdict_line verdict))

-- How a check of tables ends: a verdict is told, but nothing where the keeper failed, with 5, or where memory ran out, with 6.
pub record IsChecked (t : Tables) (old new : Option (List ℕ)) (status : ℕ) : Type 0 where
  pub statuses : (status ≡ 0) ⊎ ((status ≡ 4) ⊎ ((status ≡ 5) ⊎ ((status ≡ 6) ⊎ (status ≡ 7))))
  pub told : status ≢ 5 → status ≢ 6 → IsVerdictTold t old new status
  pub silent : (status ≡ 5) ⊎ (status ≡ 6) → Appends old new []
