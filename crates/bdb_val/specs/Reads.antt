-- Rows of worlds as they are read from tables, with their tuples.
use Rattle.std.specs.Prelude.{◌≡◌, ℕ, Bool, true, List, [], ◌∷◌, nat_eq, ◌&&◌, Option, Some, is_some}
use Rattle.std.specs.FinMap as tables
use Rattle.bdb_base.specs.declared.tuple.Tuple.{Tuple}
use Rattle.bdb_base.specs.declared.kinds.Value.{Value}
use Rattle.bdb_base.specs.Clash.{key_of}
use Rattle.bdb_base.specs.Same.{same_values}
use Rattle.bdb_base.specs.Segments.{is_prefix}
use Rattle.bdb_keep.specs.Tables.{Tables}
use Rattle.bdb_key.specs.Bytes.{num_bytes}
use Rattle.bdb_key.specs.Grammar.{IsNum}
use Rattle.bdb_key.specs.Rows.{IsTupleRow}
use Rattle.bdb_tables.specs.Codec.{HasRow, place}
use Rattle.bdb_tables.specs.InUse.{ValKey, IsValKey, val_bytes, tuple_codec, val_codec}
use Rattle.bdb_tables.specs.Spans.{AreUnder}
use Rattle.bdb_tables.specs.Writes.{Gives}
use Rattle.bdb_tables.specs.Marks.{Mark}
use Rattle.bdb_tables.specs.Rows.{AreKeyLengths}
use Rattle.bdb_val.specs.Settling.{row_key}
use Rattle.bdb_val.specs.declared.stored.StoredRow.{StoredRow}

-- how the keys of a world's rows begin
abbrev pub world_prefix : ℕ → List ℕ
world_prefix wid = num_bytes wid

-- a row with its tuple is one of table 11, whose tuple is that of its number
pub record IsTold (t : Tables) (e : ValKey × Mark) (x : StoredRow) : Type 0 where
  pub tid : x.tid ≡ e.0.3
  pub mark : x.mark ≡ e.1
  pub tuple : HasRow tuple_codec t x.tid x.tuple

-- rows with their tuples are those of table 11, one by one
abbrev pub AreTold : Tables → List (ValKey × Mark) → List StoredRow → Type 0
AreTold t [] [] = Unit {0}
AreTold t [] (x ∷ xs) = ⊥
AreTold t (e ∷ es) [] = ⊥
AreTold t (e ∷ es) (x ∷ xs) = IsTold t e x × AreTold t es xs

-- these are the rows, with their tuples, whose keys begin so, in the order of the keys
pub record AreReadUnder (t : Tables) (prefix : List ℕ) (xs : List StoredRow) : Type 0 where
  pub entries : List (ValKey × Mark)
  pub under : AreUnder val_codec t prefix entries
  pub told : AreTold t entries xs

-- each row's tuple has its row
abbrev pub HaveTuples : Tables → Type 0
HaveTuples t = (k : ValKey) → IsValKey k → is_some (tables.get t (place val_codec k)) ≡ true → is_some (tables.get t (place tuple_codec k.3)) ≡ true

-- What tables have of tuples and of rows, told by functions: each row's tuple has a number of four bytes, and the row's
-- key has the tuple's relation and key, whose length is that of the relation's keys.
pub record HasRows (keys : ℕ → ℕ) (tuple : ℕ → Option Tuple) (f : ValKey → Option Mark) (t : Tables) : Type 0 where
  pub lengths : AreKeyLengths keys
  pub tuples : Gives tuple_codec t tuple
  pub rows : Gives val_codec t f
  pub sized : (tid : ℕ) (u : Tuple) → tuple tid ≡ Some u → IsNum tid
  pub keyed : (k : ValKey) → IsValKey k → is_some (f k) ≡ true → (u : Tuple) × (tuple k.3 ≡ Some u) × (row_key keys k.0 k.3 u ≡ k)

-- a tuple is of a relation and has a key
abbrev pub is_of_group : (ℕ → ℕ) → ℕ → List Value → Tuple → Bool
is_of_group keys rel vs t = nat_eq t.rel rel && same_values (key_of keys t) vs

-- All keys that begin so are of one world, and the keys of the rows of the tuples that pass a test are those that do.
pub record IsSpan (keys : ℕ → ℕ) (wid : ℕ) (test : Tuple → Bool) (prefix : List ℕ) : Type 0 where
  pub world : (k : ValKey) → IsValKey k → is_prefix prefix (val_bytes k) ≡ true → k.0 ≡ wid
  pub begins : (tid : ℕ) (u : Tuple) → test u ≡ true → is_prefix prefix (val_bytes (row_key keys wid tid u)) ≡ true
  pub inside : (tid : ℕ) (u : Tuple) → IsTupleRow u → is_prefix prefix (val_bytes (row_key keys wid tid u)) ≡ true → test u ≡ true
