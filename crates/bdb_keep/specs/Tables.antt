-- What a keeper holds: a finite map from places to rows. The place of a key in a table is the table's number and then the key's bytes.
use Rattle.std.specs.Prelude.{◌≡◌, ℕ, ◌≤◌, List, [], ◌∷◌, Option, Some, None, IsTrue, IsSome}
use Rattle.std.specs.declared.cmp.Ordering.{Ordering}
use Rattle.std.specs.Ordering.{nat_cmp, is_le}
use Rattle.std.specs.Cmp.Lexicographic.{slice_cmp}
use Rattle.std.specs.Coded.{Coded, coded_ℕ, coded_list}
use Rattle.std.specs.FinMap as map
use Rattle.std.specs.FinMap.{FinMap}

-- the order of byte keys
abbrev pub bytes_cmp : List ℕ → List ℕ → Ordering
bytes_cmp = slice_cmp nat_cmp

-- the rows by place: a table's number and then the key
abbrev pub Tables : Type 0
Tables = FinMap bytes_cmp (List ℕ)

-- tables as plain data
abbrev pub coded_tables : Coded Tables
coded_tables = map.code (coded_list coded_ℕ) (coded_list coded_ℕ)

-- the tables with this row at a place, or with none there
abbrev pub set_at : Tables → List ℕ → Option (List ℕ) → Tables
set_at t place (Some row) = map.insert t place row
set_at t place None = map.remove t place

-- a key is the least in a table that isn't below `low`, and this is its row
pub record IsLeastFrom (t : Tables) (tab : ℕ) (low key row : List ℕ) : Type 0 where
  pub found : map.get t (tab ∷ key) ≡ Some row
  pub not_below : IsTrue (is_le (bytes_cmp low key))
  pub least : (q : List ℕ) → IsTrue (is_le (bytes_cmp low q)) → IsSome (map.get t (tab ∷ q)) → IsTrue (is_le (bytes_cmp key q))

-- no key of a table is `low` or above it
abbrev pub NoneFrom : Tables → ℕ → List ℕ → Type 0
NoneFrom t tab low = (q : List ℕ) → IsTrue (is_le (bytes_cmp low q)) → map.get t (tab ∷ q) ≡ None

-- each row of some tables is in the others
abbrev pub LieWithin : Tables → Tables → Type 0
LieWithin t u = (q row : List ℕ) → map.get t q ≡ Some row → map.get u q ≡ Some row

-- a place: the number of a table, 1 to 15, and then a key
abbrev pub IsPlace : List ℕ → Type 0
IsPlace [] = ⊥
IsPlace (tab ∷ key) = (1 ≤ tab) × (tab ≤ 15)

-- each row is in one of the tables 1 to 15
abbrev pub LieInTables : Tables → Type 0
LieInTables t = (q row : List ℕ) → map.get t q ≡ Some row → IsPlace q
