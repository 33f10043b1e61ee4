-- What the table of the format tells.
use Rattle.std.specs.Prelude.{ℕ, List, [], ◌∷◌, Some}
use Rattle.bdb_keep.specs.Tables.{Tables}
use Rattle.bdb_tables.specs.InUse.{meta_codec}
use Rattle.bdb_tables.specs.Writes.{Gives}
use Rattle.bdb_entries.specs.Reading.{IsBare}
use Rattle.bdb_entries.specs.declared.format.Format.{Format}
use Rattle.bdb_entries.specs.declared.format.Format.TheVariants.{Bare, Is, Damaged}

-- the table of the format is one row of the right key and form, with this number
abbrev pub HasFormat : Tables → ℕ → Type 0
HasFormat t n = Gives meta_codec t (λ _. Some n)

-- the table of the format has a row, but not one alone, of the right key and form
pub record IsFormatDamaged (t : Tables) : Type 0 where
  pub some : IsBare t 1 → ⊥
  pub none : (n : ℕ) → HasFormat t n → ⊥

-- what the table of the format has
abbrev pub TellsFormat : Tables → Format → Type 0
TellsFormat t Bare = IsBare t 1
TellsFormat t (Is n) = HasFormat t n
TellsFormat t Damaged = IsFormatDamaged t

-- what rows of the format's table tell
abbrev pub format_of : List (Unit {0} × ℕ) → Format
format_of [] = Bare
format_of (e ∷ []) = Is e.1
format_of (e ∷ f ∷ es) = Damaged
