-- The rows of a table whose keys begin with some bytes.
use Rattle.std.specs.Prelude.{◌≡◌, ℕ, true, List, ◌∷◌, Option, None, IsTrue, MatchOption, map}
use Rattle.std.specs.declared.cmp.Ordering.{Ordering}
use Rattle.std.specs.List.{AllByRecursion, AllZip}
use Rattle.std.specs.Ordering.{is_le}
use Rattle.std.specs.FinMap as tables
use Rattle.std.specs.FinMap.{find}
use Rattle.bdb_base.specs.Segments.{is_prefix}
use Rattle.bdb_base.specs.SortedSet.{ascending}
use Rattle.bdb_keep.specs.Scans.{next_key}
use Rattle.bdb_keep.specs.Spans.{Listed}
use Rattle.bdb_keep.specs.Tables.{Tables, bytes_cmp, IsLeastFrom}
use Rattle.bdb_key.specs.Reading.{Reads}
use Rattle.bdb_tables.specs.Codec.{Codec, IsEntryOf}

module _ {Key Row : Type 0} where
  -- the bytes of a key and a row
  abbrev pub entry_bytes : Codec Key Row → Key × Row → List ℕ × List ℕ
  entry_bytes c e = (c.key_bytes e.0, c.row_bytes e.1)

  -- rows by the bytes of their keys
  abbrev pub entry_cmp : Codec Key Row → Key × Row → Key × Row → Ordering
  entry_cmp c a b = bytes_cmp (c.key_bytes a.0) (c.key_bytes b.0)

  -- a key and a row of the grammar, whose key begins so
  pub record IsUnder (c : Codec Key Row) (prefix : List ℕ) (e : Key × Row) : Type 0 where
    pub key : c.IsKey e.0
    pub row : c.IsRow e.1
    pub begins : is_prefix prefix (c.key_bytes e.0) ≡ true

  -- These are the rows of a table whose keys begin so, in order: what the table has at such a key is what they have there.
  pub record AreUnder (c : Codec Key Row) (t : Tables) (prefix : List ℕ) (es : List (Key × Row)) : Type 0 where
    pub each : AllByRecursion (IsUnder c prefix) es
    pub sorted : ascending (entry_cmp c) es ≡ true
    pub found : (q : List ℕ) → is_prefix prefix q ≡ true → tables.get t (c.number ∷ q) ≡ find bytes_cmp q (map (entry_bytes c) es)

  -- each of these is the bytes of a key and a row of the table
  abbrev pub AreEntriesOf : Codec Key Row → Listed → Type 0
  AreEntriesOf c bytes = AllByRecursion (λ b. IsEntryOf c b.0 b.1) bytes

  -- a key and a row have these bytes
  pub record Spells (c : Codec Key Row) (b : List ℕ × List ℕ) (e : Key × Row) : Type 0 where
    pub key : Reads c.IsKey c.key_bytes b.0 e.0
    pub row : Reads c.IsRow c.row_bytes b.1 e.1

  -- keys and rows have these bytes, one after the other
  abbrev pub Spell : Codec Key Row → Listed → List (Key × Row) → Type 0
  Spell c bytes es = AllZip (Spells c) bytes es

  -- the first row from `low` on whose key begins so; the bytes `behind` are the least above its key
  pub record IsNextUnder (c : Codec Key Row) (t : Tables) (prefix low behind : List ℕ) (e : Key × Row) : Type 0 where
    pub under : IsUnder c prefix e
    pub least : IsLeastFrom t c.number low (c.key_bytes e.0) (c.row_bytes e.1)
    pub moved : behind ≡ next_key (c.key_bytes e.0)

  -- no row from `low` on has a key that begins so
  abbrev pub NoneUnder : Codec Key Row → Tables → List ℕ → List ℕ → Type 0
  NoneUnder c t prefix low = (q : List ℕ) → is_prefix prefix q ≡ true → IsTrue (is_le (bytes_cmp low q)) → tables.get t (c.number ∷ q) ≡ None

  -- what comes next under a beginning
  abbrev pub HasNextUnder : Codec Key Row → Tables → List ℕ → List ℕ → List ℕ → Option (Key × Row) → Type 0
  HasNextUnder c t prefix low behind found = MatchOption found (NoneUnder c t prefix low) (IsNextUnder c t prefix low behind)
