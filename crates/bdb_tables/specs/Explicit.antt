-- Explicit rows of a world.
use Rattle.std.specs.Prelude.{◌≡◌, ℕ, Bool, true}
use Rattle.std.specs.Bool.{MatchBool}
use Rattle.bdb_base.specs.declared.kinds.Sign.{Sign}
use Rattle.bdb_keep.specs.Tables.{Tables}
use Rattle.bdb_tables.specs.Codec.{HasRow}
use Rattle.bdb_tables.specs.InUse.{ValKey, IsValKey, val_codec}

-- a world has an explicit row
pub record HasExplicitRow (t : Tables) (n : ℕ) : Type 0 where
  pub key : ValKey
  pub sign : Sign
  pub fits : IsValKey key
  pub world : key.0 ≡ n
  pub row : HasRow val_codec t key (sign, true)

-- whether a world has an explicit row
abbrev pub TellsExplicit : Tables → ℕ → Bool → Type 0
TellsExplicit t n found = MatchBool found (HasExplicitRow t n) (HasExplicitRow t n → ⊥)
