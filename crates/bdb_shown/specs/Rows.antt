-- Rows of a world by their bytes: as they are read, in their order, and with their lines.
use Rattle.std.specs.Prelude.{◌≡◌, ℕ, Bool, ◌&&◌, not, nat_eq, List, Some, is_some, true, map}
use Rattle.std.specs.FinMap as tables
use Rattle.std.specs.List.{AllByRecursion, AllZip}
use Rattle.std.specs.List.Sorted.{IsPermutation, IsSortedBy}
use Rattle.std.specs.Ordering.{is_lt}
use Rattle.bdb_base.specs.declared.kinds.Catalog.{Catalog}
use Rattle.bdb_base.specs.declared.kinds.Held.{Held}
use Rattle.bdb_keep.specs.Spans.{Listed, AreRowsUnder}
use Rattle.bdb_keep.specs.Tables.{Tables, bytes_cmp}
use Rattle.bdb_key.specs.Reading.{Reads}
use Rattle.bdb_key.specs.Rows.{IsTupleRow, tuple_bytes, IsAnyMark, mark_bytes}
use Rattle.bdb_render.specs.Replies.{held_line}
use Rattle.bdb_shown.specs.declared.row.WorldRow.{WorldRow}
use Rattle.bdb_tables.specs.Codec.{place}
use Rattle.bdb_tables.specs.InUse.{ValKey, IsValKey, val_bytes, tuple_codec}

-- ---- rows as they are read

-- the second row is the first, with the bytes of its tuple in the place of its key
pub record HasTupleFor (t : Tables) (stored row : List ℕ × List ℕ) : Type 0 where
  pub tuple : (k : ValKey) → Reads IsValKey val_bytes stored.0 k → tables.get t (place tuple_codec k.3) ≡ Some row.0
  pub mark : row.1 ≡ stored.1

-- these are the rows of table 11 whose keys begin so, in order, with the bytes of their tuples in the place of their keys
pub record AreRawRows (t : Tables) (prefix : List ℕ) (rows : Listed) : Type 0 where
  pub stored : Listed
  pub under : AreRowsUnder t 11 prefix stored
  pub tuples : AllZip (HasTupleFor t) stored rows

-- a row of table 11, whose tuple has its row
pub record StandsWithTuple (t : Tables) (stored : List ℕ × List ℕ) : Type 0 where
  pub key : ValKey
  pub reads : Reads IsValKey val_bytes stored.0 key
  pub there : is_some (tables.get t (place tuple_codec key.3)) ≡ true

-- each of these is such a row
abbrev pub StandWithTuples : Tables → Listed → Type 0
StandWithTuples t stored = AllByRecursion (StandsWithTuple t) stored

-- ---- rows of a world

-- a row by its bytes
abbrev pub raw : WorldRow → List ℕ × List ℕ
raw row = (row.tuple.now, row.mark.now)

-- these bytes are the tuple of a row of a world, and its sign and mark
pub record SpellsRow (row : List ℕ × List ℕ) (held : Held) : Type 0 where
  pub tuple : Reads IsTupleRow tuple_bytes row.0 held.tuple
  pub mark : Reads IsAnyMark mark_bytes row.1 (held.sign, held.explicit)

-- these bytes are the rows of a world, one after the other
abbrev pub Spell : Listed → List Held → Type 0
Spell rows held = AllZip SpellsRow rows held

-- these are the rows, and none comes before the one in front of it
pub record AreOrdered (rows : Listed) (ordered : List WorldRow) : Type 0 where
  pub moved : IsPermutation rows (map raw ordered)
  pub sorted : IsSortedBy (λ a b. is_lt (bytes_cmp a.tuple.now b.tuple.now)) ordered

-- ---- lines

-- a byte of a text that stands in quotes as it is, and doesn't end it
abbrev pub stands_alone : ℕ → Bool
stands_alone byte = not (nat_eq byte 0) && not (nat_eq byte 39)

-- a row as a path's own world has it, or as another path inherits it
abbrev pub told : Bool → Held → Held
told own held = record { tuple = held.tuple; sign = held.sign; explicit = own && held.explicit }

-- the line of a row so told
abbrev pub told_line : Catalog → Bool → Held → List ℕ
told_line catalog own held = held_line catalog (told own held)
