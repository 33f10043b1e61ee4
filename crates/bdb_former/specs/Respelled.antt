-- Tables of the format before this one, their rows spelled as this one spells them. What has changed between the two: the
-- number of the format was 2 and is 3, no bytes are a row of a user, one who is gone, a relation tells the length of its key
-- behind its name, and a key of table 11 tells how many values it has before them. In the format before this one each user had
-- a name, and each key one value.
use Rattle.std.specs.Prelude.{◌≡◌, ℕ, suc, pos, nat_eq, List, [], ◌∷◌, ◌++◌, Some, cond, map}
use Prim.Native.Nat.{zero}
use Rattle.std.specs.FinMap as tables
use Rattle.std.specs.Ordering.{eq_by_cmp, is_lt}
use Rattle.bdb_keep.specs.Tables.{Tables, bytes_cmp}
use Rattle.bdb_key.specs.Bytes.{num_bytes, int_bytes}

-- the row of the format: 3 in place of 2
abbrev pub respelled_format : List ℕ → List ℕ
respelled_format row = cond (eq_by_cmp bytes_cmp row (num_bytes 2)) (num_bytes 3) row

-- the row of a user: no bytes were no user's row, and become bytes that are none; any others are as they are
abbrev pub respelled_user : List ℕ → List ℕ
respelled_user [] = 0 ∷ []
respelled_user (b ∷ bytes) = b ∷ bytes

-- the integer 1 behind the first byte 0, where there is one
abbrev pub with_length : List ℕ → List ℕ
with_length [] = []
with_length (b ∷ bytes) = cond (nat_eq b 0) (b ∷ (int_bytes (pos 1) ++ bytes)) (b ∷ with_length bytes)

-- the row of a relation: the integer 1 behind the text with which it begins; a row that begins with no text is as it is
abbrev pub respelled_relation : List ℕ → List ℕ
respelled_relation [] = []
respelled_relation (mark ∷ bytes) = mark ∷ cond (nat_eq mark 2) (with_length bytes) bytes

-- a row of a table
abbrev pub respelled_row : ℕ → List ℕ → List ℕ
respelled_row tab row = cond (nat_eq tab 1) (respelled_format row) (cond (nat_eq tab 2) (respelled_user row) (cond (nat_eq tab 3) (respelled_relation row) row))

-- a key with the number 1 behind its first `n` bytes; a shorter one is as it is
abbrev pub with_count : ℕ → List ℕ → List ℕ
with_count zero key = num_bytes 1 ++ key
with_count (suc n) [] = []
with_count (suc n) (b ∷ key) = b ∷ with_count n key

-- a key of a table: one of table 11 has its count of values behind its world and its relation
abbrev pub respelled_key : ℕ → List ℕ → List ℕ
respelled_key tab key = cond (nat_eq tab 11) (with_count 8 key) key

-- the place of a row
abbrev pub respelled_place : List ℕ → List ℕ
respelled_place [] = []
respelled_place (tab ∷ key) = tab ∷ respelled_key tab key

-- the row at a place
abbrev pub respelled_at : List ℕ → List ℕ → List ℕ
respelled_at [] row = row
respelled_at (tab ∷ key) row = respelled_row tab row

-- a place and its row
abbrev pub respelled_entry : List ℕ × List ℕ → List ℕ × List ℕ
respelled_entry e = (respelled_place e.0, respelled_at e.0 e.1)

-- the tables with each row respelled, at its place respelled
abbrev pub respelled : Tables → Tables
respelled t = tables.from_entries (map respelled_entry (tables.entries t))

-- the rows below a place
abbrev pub below : List ℕ → Tables → Tables
below limit t = tables.retain_keys t (λ p. is_lt (bytes_cmp p limit))

-- a row is a former one, respelled
pub record IsRespelled (t : Tables) (q row : List ℕ) : Type 0 where
  pub place : List ℕ
  pub former : List ℕ
  pub found : tables.get t place ≡ Some former
  pub placed : respelled_place place ≡ q
  pub spelled : respelled_at place former ≡ row
