-- Numbers that are no keys of a table.
use Rattle.std.specs.Prelude.{◌≡◌, ℕ, ◌≤◌, ◌<◌, true, ◌∷◌, None, is_some}
use Rattle.std.specs.FinMap as tables
use Rattle.bdb_key.specs.Bytes.{num_bytes}
use Rattle.bdb_key.specs.Grammar.{IsNum}
use Rattle.bdb_keep.specs.Tables.{Tables}

-- a number is the least one from `low` on that is no key of a table
pub record IsFirstGap (t : Tables) (tab low n : ℕ) : Type 0 where
  pub fits : IsNum n
  pub from : low ≤ n
  pub free : tables.get t (tab ∷ num_bytes n) ≡ None
  pub least : (k : ℕ) → low ≤ k → k < n → is_some (tables.get t (tab ∷ num_bytes k)) ≡ true
