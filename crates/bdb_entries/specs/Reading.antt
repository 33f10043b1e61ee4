-- What reading whole tables of any bytes tells.
use Rattle.std.specs.Prelude.{◌≡◌, ℕ, false, List, ◌∷◌, Some, None}
use Rattle.std.specs.FinMap as tables
use Rattle.bdb_keep.specs.Tables.{Tables}
use Rattle.bdb_tables.specs.Codec.{Codec, TableFits}
use Rattle.bdb_tables.specs.Grammar.{IsEntry}
use Rattle.bdb_tables.specs.InUse.{plain_codec}
use Rattle.bdb_tables.specs.Stored.{is_table}
use Rattle.bdb_tables.specs.Writes.{Gives}

-- a key or a row of a table is none of it
abbrev pub Misfits : {Key Row : Type 0} → Codec Key Row → Tables → Type 0
Misfits c t = TableFits c t → ⊥

-- a table has no row
abbrev pub IsBare : Tables → ℕ → Type 0
IsBare t n = (k : List ℕ) → tables.get t (n ∷ k) ≡ None

-- every key and row that stands under a number is in the grammar of that table
abbrev pub AreEntries : Tables → ℕ → Type 0
AreEntries t n = (k r : List ℕ) → tables.get t (n ∷ k) ≡ Some r → IsEntry n k r

-- the table of statements by path has no row, and no table but the twelve has one
pub record OthersAreBare (t : Tables) : Type 0 where
  pub plain : Gives plain_codec t (λ _. None)
  pub outside : (n : ℕ) (k : List ℕ) → is_table n ≡ false → tables.get t (n ∷ k) ≡ None
