-- The rows of table 11, told by the numbers of their tuples: under a beginning, and of one group, that of a world, a relation and
-- a key.
use Rattle.std.specs.Prelude.{◌≡◌, ℕ, List, ◌++◌, Option, map}
use Rattle.std.specs.List.{AllByRecursion, AllZip}
use Rattle.std.specs.Ordering.{nat_cmp}
use Rattle.bdb_base.specs.declared.kinds.Value.{Value}
use Rattle.bdb_keep.specs.Spans.{Listed}
use Rattle.bdb_keep.specs.Tables.{Tables}
use Rattle.bdb_key.specs.Bytes.{num_bytes, vals_bytes}
use Rattle.bdb_key.specs.Grammar.{IsNum, AreKeyVals}
use Rattle.bdb_key.specs.Reading.{Reads}
use Rattle.bdb_key.specs.Rows.{IsAnyMark, mark_bytes}
use Rattle.bdb_tables.specs.Codec.{Codec, HasAt, codec_of}
use Rattle.bdb_tables.specs.InUse.{ValKey, IsValKey, mark_rows, val_bytes, val_codec}
use Rattle.bdb_tables.specs.Marks.{Mark}
use Rattle.bdb_tables.specs.Spans.{AreUnder}
use Rattle.bdb_tables.specs.Writes.{IsChange, with_changes}

-- how the keys of the rows of a world, a relation and the values of a key begin
abbrev pub group_bytes : ℕ → ℕ → List Value → List ℕ
group_bytes w r vs = num_bytes w ++ num_bytes r ++ vals_bytes vs

-- the keys of a world, a relation and the values of a key begin so
pub record BeginsGroup (prefix : List ℕ) (w r : ℕ) (vs : List Value) : Type 0 where
  pub world : IsNum w
  pub rel : IsNum r
  pub key : AreKeyVals vs
  pub bytes : prefix ≡ group_bytes w r vs

-- the keys of some group begin so
pub record IsGroup (prefix : List ℕ) : Type 0 where
  pub world : ℕ
  pub rel : ℕ
  pub key : List Value
  pub begins : BeginsGroup prefix world rel key

-- the number of a tuple, and what goes with it, with the whole key
abbrev pub in_group : {X : Type 0} → ℕ → ℕ → List Value → ℕ × X → ValKey × X
in_group w r vs x = ((w, r, vs, x.0), x.1)

-- these are the rows of the group whose keys begin so, in order
abbrev pub AreMarks : Tables → List ℕ → List (ℕ × Mark) → Type 0
AreMarks t prefix xs = (w r : ℕ) (vs : List Value) → BeginsGroup prefix w r vs → AreUnder val_codec t prefix (map (in_group w r vs) xs)

-- what the group whose keys begin so has at the number of a tuple
abbrev pub HasMark : Tables → List ℕ → ℕ → Option Mark → Type 0
HasMark t prefix tid found = (w r : ℕ) (vs : List Value) → BeginsGroup prefix w r vs → HasAt val_codec t (w, r, vs, tid) found

-- the second tables are the first with changes of the group whose keys begin so, made one after the other
abbrev pub HaveMarks : Tables → Tables → List ℕ → List (ℕ × Option Mark) → Type 0
HaveMarks t u prefix xs = (w r : ℕ) (vs : List Value) → BeginsGroup prefix w r vs → u ≡ with_changes val_codec t (map (in_group w r vs) xs)

-- changes of the group whose keys begin so are in the grammar
abbrev pub AreChanges : List ℕ → List (ℕ × Option Mark) → Type 0
AreChanges prefix xs = (w r : ℕ) (vs : List Value) → BeginsGroup prefix w r vs → AllByRecursion (IsChange val_codec) (map (in_group w r vs) xs)

-- the number of a row's tuple, and what the row has
abbrev pub numbered : ValKey × Mark → ℕ × Mark
numbered e = (e.0.3, e.1)

-- these are the rows whose keys begin so, by the numbers of their tuples, in the order of the keys
pub record AreNumbered (t : Tables) (prefix : List ℕ) (xs : List (ℕ × Mark)) : Type 0 where
  pub entries : List (ValKey × Mark)
  pub under : AreUnder val_codec t prefix entries
  pub are : xs ≡ map numbered entries

-- these bytes are the key and the row of a tuple's number
pub record IsNumbered (key row : List ℕ) (x : ℕ × Mark) : Type 0 where
  pub entry : ValKey × Mark
  pub key_reads : Reads IsValKey val_bytes key entry.0
  pub row_reads : Reads IsAnyMark mark_bytes row entry.1
  pub is : x ≡ numbered entry

-- these bytes are the keys and the rows of the tuples' numbers, one after the other
abbrev pub SpellNumbered : Listed → List (ℕ × Mark) → Type 0
SpellNumbered bytes xs = AllZip (λ b x. IsNumbered b.0 b.1 x) bytes xs

-- these bytes are a number
abbrev pub AreNumberBytes : List ℕ → Type 0
AreNumberBytes bytes = (n : ℕ) × Reads IsNum num_bytes bytes n

-- table 11 with keys that begin so, by the numbers that follow
abbrev pub marks_codec : List ℕ → Codec ℕ Mark
marks_codec prefix = codec_of 11 (record { MayBe = λ _. Unit {0}; Is = IsNum; bytes = λ tid. prefix ++ num_bytes tid; cmp = nat_cmp }) mark_rows
