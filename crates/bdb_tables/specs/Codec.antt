-- Tables of typed keys and rows over a keeper's bytes.
use Rattle.std.specs.Prelude.{◌≡◌, ℕ, Bool, List, ◌∷◌, Option, Some, None, IsTrue, IsSome, MatchOption}
use Rattle.std.specs.declared.cmp.Ordering.{Ordering}
use Rattle.std.specs.Ordering.{is_le}
use Rattle.std.specs.FinMap as map
use Rattle.bdb_keep.specs.Tables.{Tables, bytes_cmp, IsLeastFrom, NoneFrom}
use Rattle.bdb_key.specs.Reading.{Reads}

-- A table's number, and the bytes of its keys and rows. `MayBeKey` and `MayBeRow` are what whoever hands a key or row in
-- has to know: all of the grammar but the sizes of its numbers, which their types keep.
pub record Codec (Key Row : Type 0) : Type 1 where
  pub number : ℕ
  pub MayBeKey : Key → Type 0
  pub IsKey : Key → Type 0
  pub key_bytes : Key → List ℕ
  pub key_cmp : Key → Key → Ordering
  pub MayBeRow : Row → Type 0
  pub IsRow : Row → Type 0
  pub row_bytes : Row → List ℕ

-- Keys of one form: which are in the grammar, their bytes and their order.
pub record Keys (Key : Type 0) : Type 1 where
  pub MayBe : Key → Type 0
  pub Is : Key → Type 0
  pub bytes : Key → List ℕ
  pub cmp : Key → Key → Ordering

-- Rows of one form: which are in the grammar, and their bytes.
pub record Rows (Row : Type 0) : Type 1 where
  pub MayBe : Row → Type 0
  pub Is : Row → Type 0
  pub bytes : Row → List ℕ

-- a table of keys and rows of these forms
abbrev pub codec_of : {Key Row : Type 0} → ℕ → Keys Key → Rows Row → Codec Key Row
codec_of number keys rows = record {
  number = number;
  MayBeKey = keys.MayBe;
  IsKey = keys.Is;
  key_bytes = keys.bytes;
  key_cmp = keys.cmp;
  MayBeRow = rows.MayBe;
  IsRow = rows.Is;
  row_bytes = rows.bytes;
}

module _ {Key Row : Type 0} where
  -- the place of a key
  abbrev pub place : Codec Key Row → Key → List ℕ
  place c key = c.number ∷ c.key_bytes key

  -- these bytes are a key and a row of the table
  pub record IsEntryOf (c : Codec Key Row) (k r : List ℕ) : Type 0 where
    pub key : Key
    pub row : Row
    pub key_reads : Reads c.IsKey c.key_bytes k key
    pub row_reads : Reads c.IsRow c.row_bytes r row

  -- every key and row that stands under the table's number is one of the table
  abbrev pub TableFits : Codec Key Row → Tables → Type 0
  TableFits c t = (k r : List ℕ) → map.get t (c.number ∷ k) ≡ Some r → IsEntryOf c k r

  -- these bytes are a row of the table
  abbrev pub IsRowOf : Codec Key Row → List ℕ → Type 0
  IsRowOf c r = (row : Row) × Reads c.IsRow c.row_bytes r row

  -- these bytes are a key of the table
  abbrev pub IsKeyOf : Codec Key Row → List ℕ → Type 0
  IsKeyOf c k = (key : Key) × Reads c.IsKey c.key_bytes k key

  -- the least key that isn't below these bytes, and its row
  pub record IsLeast (c : Codec Key Row) (t : Tables) (low : List ℕ) (key : Key) (row : Row) : Type 0 where
    pub key_fits : c.IsKey key
    pub row_fits : c.IsRow row
    pub least : IsLeastFrom t c.number low (c.key_bytes key) (c.row_bytes row)

  -- what a table has first, from bytes on
  abbrev pub HasLeast : Codec Key Row → Tables → List ℕ → Option (Key × Row) → Type 0
  HasLeast c t low found = MatchOption found (NoneFrom t c.number low) (λ e. IsLeast c t low e.0 e.1)

  -- the table has this row at a key
  pub record HasRow (c : Codec Key Row) (t : Tables) (key : Key) (row : Row) : Type 0 where
    pub in_grammar : c.IsRow row
    pub found : map.get t (place c key) ≡ Some (c.row_bytes row)

  -- what the table has at a key
  abbrev pub HasAt : Codec Key Row → Tables → Key → Option Row → Type 0
  HasAt c t key found = MatchOption found (map.get t (place c key) ≡ None) (HasRow c t key)

  -- the least key of a table that passes a test, and its row
  pub record IsFirst (c : Codec Key Row) (t : Tables) (test : Key → Bool) (key : Key) (row : Row) : Type 0 where
    pub in_grammar : c.IsKey key
    pub passes : IsTrue (test key)
    pub found : HasRow c t key row
    pub least : (q : Key) → c.IsKey q → IsTrue (test q) → IsSome (map.get t (place c q)) → IsTrue (is_le (c.key_cmp key q))

  -- what a table has first among the keys that pass a test
  abbrev pub HasFirst : Codec Key Row → Tables → (Key → Bool) → Option (Key × Row) → Type 0
  HasFirst c t test found = MatchOption found
      ((q : Key) → c.IsKey q → IsTrue (test q) → map.get t (place c q) ≡ None)
      (λ e. IsFirst c t test e.0 e.1)

  -- keys are written in their order
  abbrev pub KeepsOrder : Codec Key Row → Type 0
  KeepsOrder c = (a b : Key) → c.IsKey a → c.IsKey b → bytes_cmp (c.key_bytes a) (c.key_bytes b) ≡ c.key_cmp a b

  -- no two keys are written alike
  abbrev pub HasOneKey : Codec Key Row → Type 0
  HasOneKey c = (a b : Key) → c.IsKey a → c.IsKey b → c.key_bytes a ≡ c.key_bytes b → a ≡ b

  -- no two rows are written alike
  abbrev pub HasOneRow : Codec Key Row → Type 0
  HasOneRow c = (a b : Row) → c.IsRow a → c.IsRow b → c.row_bytes a ≡ c.row_bytes b → a ≡ b

-- keys are written in their order
abbrev pub KeysInOrder : {Key : Type 0} → Keys Key → Type 0
KeysInOrder {Key} keys = (a b : Key) → keys.Is a → keys.Is b → bytes_cmp (keys.bytes a) (keys.bytes b) ≡ keys.cmp a b

-- no two keys are written alike
abbrev pub KeysAreOne : {Key : Type 0} → Keys Key → Type 0
KeysAreOne {Key} keys = (a b : Key) → keys.Is a → keys.Is b → keys.bytes a ≡ keys.bytes b → a ≡ b

-- no two rows are written alike
abbrev pub RowsAreOne : {Row : Type 0} → Rows Row → Type 0
RowsAreOne {Row} rows = (a b : Row) → rows.Is a → rows.Is b → rows.bytes a ≡ rows.bytes b → a ≡ b
