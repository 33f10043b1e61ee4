-- Rows that are marked, and how many of a table are at the number in four bytes of their keys.
use Rattle.std.specs.Prelude.{◌≡◌, ℕ, ◌-◌, ◌%◌, Bool, true, nat_eq, List, ◌∷◌, Some, take, drop, length, slice_index_or}
use Rattle.std.specs.List.{AllByRecursion, Contains, IsDistinct}
use Rattle.std.specs.Int.{w32, to_be_bytes}
use Rattle.std.specs.FinMap as map
use Rattle.bdb_base.specs.Same.{same_text}
use Rattle.bdb_keep.specs.Tables.{Tables}
use Rattle.bdb_keep.specs.declared.keeper.KeyEnd.{KeyEnd}
use Rattle.bdb_keep.specs.declared.keeper.KeyEnd.TheVariants.{First, Last}

-- the last byte of a row, and 0 where it has none
abbrev pub last_byte : List ℕ → ℕ
last_byte row = slice_index_or row (length row - 1) 0

-- a row is marked where its last byte is odd
abbrev pub is_marked : List ℕ → Bool
is_marked row = nat_eq (last_byte row % 2) 1

-- the four bytes of a key that are meant, and fewer where it has no four
abbrev pub four_bytes : KeyEnd → List ℕ → List ℕ
four_bytes First key = take 4 key
four_bytes Last key = drop (length key - 4) key

-- these bytes of a key are those of a number
abbrev pub has_word : KeyEnd → ℕ → List ℕ → Bool
has_word end word key = same_text (four_bytes end key) (to_be_bytes w32 word)

-- there is a marked row at a key with this number
pub record IsMarkedAt (t : Tables) (tab : ℕ) (end : KeyEnd) (word : ℕ) (key : List ℕ) : Type 0 where
  pub row : List ℕ
  pub found : map.get t (tab ∷ key) ≡ Some row
  pub marked : is_marked row ≡ true
  pub number : has_word end word key ≡ true

-- so many keys are those of marked rows with this number: each of these is listed, and once, and no other
pub record IsMarkedCount (t : Tables) (tab : ℕ) (end : KeyEnd) (word n : ℕ) : Type 0 where
  pub keys : List (List ℕ)
  pub once : IsDistinct same_text keys
  pub each : AllByRecursion (IsMarkedAt t tab end word) keys
  pub listed : (key : List ℕ) → IsMarkedAt t tab end word key → Contains keys key
  pub count : length keys ≡ n
