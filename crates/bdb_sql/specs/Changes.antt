-- What a statement makes of the stored rows.
use Rattle.std.specs.Prelude.{◌≡◌, ◌⊎◌, ℕ, pos, List, [], ◌∷◌}
use Rattle.sqlite_value.specs.Order.{Row, column}
use Rattle.sqlite_value.specs.declared.value.Value.TheVariants.{Int, Blob}
use Rattle.sqlite_rules.specs.Lists.{Has}
use Rattle.bdb_sql.specs.Rows.{entry}

-- a row as the columns of the table have it
abbrev pub filed : ℕ → List ℕ → List ℕ → Row
filed tab key content = Int (pos tab) ∷ Blob key ∷ Blob content ∷ []

-- a stored row is that of this table and key
abbrev pub IsRowAt : ℕ → List ℕ → Row → Type 0
IsRowAt tab key r = (column r 1 ≡ Int (pos tab)) × (column r 2 ≡ Blob key)

-- this row was put at a table and key: it is there alone, and the rows elsewhere are those that were there
pub record IsPut (tab : ℕ) (key content : List ℕ) (old new : List Row) : Type 0 where
  pub there : (r : Row) × Has new r × (entry r ≡ filed tab key content)
  pub only : (r : Row) → Has new r → (entry r ≡ filed tab key content) ⊎ (Has old r × ¬ IsRowAt tab key r)
  pub kept : (r : Row) → Has old r → ¬ IsRowAt tab key r → Has new r

-- no row is at this table and key, and the rows elsewhere are those that were there
pub record IsRowGone (tab : ℕ) (key : List ℕ) (old new : List Row) : Type 0 where
  pub only : (r : Row) → Has new r → Has old r × ¬ IsRowAt tab key r
  pub kept : (r : Row) → Has old r → ¬ IsRowAt tab key r → Has new r
