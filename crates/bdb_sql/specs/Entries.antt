-- Rows of the file, and what they stand for.
use Rattle.std.specs.Prelude.{◌≡◌, ℕ, ◌≤◌, ◌^◌, pos, List, ◌∷◌, length, IsTrue}
use Rattle.std.specs.Ordering.{is_lt}
use Rattle.std.specs.FinMap as map
use Rattle.sqlite_value.specs.Order.{Row, column}
use Rattle.sqlite_value.specs.declared.value.Value.TheVariants.{Int, Blob}
use Rattle.bdb_keep.specs.Tables.{Tables, bytes_cmp}

-- a key or a content is no longer than this
abbrev pub longest : ℕ
longest = 2 ^ 20

-- a row of the file stands for this row of a table 1 to 15
pub record IsFiledRow (filed : Row) (tab : ℕ) (key row : List ℕ) : Type 0 where
  pub tab_is : column filed 0 ≡ Int (pos tab)
  pub key_is : column filed 1 ≡ Blob key
  pub row_is : column filed 2 ≡ Blob row
  pub table : (1 ≤ tab) × (tab ≤ 15)
  pub sizes : (length key ≤ longest) × (length row ≤ longest)

-- a row of the file is added, whose place comes after this one
pub record AddsAfter (filed : Row) (before place : List ℕ) (old new : Tables) : Type 0 where
  pub tab : ℕ
  pub key : List ℕ
  pub content : List ℕ
  pub stands : IsFiledRow filed tab key content
  pub place_is : place ≡ tab ∷ key
  pub after : IsTrue (is_lt (bytes_cmp before place))
  pub added : new ≡ map.insert old place content
