-- Rows of a world that are put into another one as inherited rows, or taken away.
use Rattle.std.specs.Prelude.{◌≡◌, ℕ, false, List, [], ◌++◌, drop, length, map, slice_index_or, Option, Some, None}
use Rattle.std.specs.List.{AllByRecursion, AllZip}
use Rattle.bdb_keep.specs.Spans.{Listed, with_ends}
use Rattle.bdb_keep.specs.Tables.{Tables}
use Rattle.bdb_key.specs.Bytes.{num_bytes}
use Rattle.bdb_key.specs.Rows.{mark_bytes}
use Rattle.bdb_tables.specs.Codec.{IsEntryOf}
use Rattle.bdb_tables.specs.InUse.{ValKey, val_bytes, val_codec}
use Rattle.bdb_tables.specs.Marks.{Mark}
use Rattle.bdb_tables.specs.Spans.{AreUnder, Spells}
use Rattle.bdb_tables.specs.Writes.{IsChange, with_changes}

-- a row as the change that puts it into another world as an inherited one
abbrev pub copied : ℕ → ValKey × Mark → ValKey × Option Mark
copied to e = ((to, e.0.1, e.0.2, e.0.3), Some (e.1.0, false))

-- a row as the change that takes it away
abbrev pub removed : ValKey × Mark → ValKey × Option Mark
removed e = (e.0, None)

-- all rows whose keys begin so were changed, one after the other in the order of their keys, and so many they are
pub record AreChanged (change : ValKey × Mark → ValKey × Option Mark) (t u : Tables) (prefix : List ℕ) (n : ℕ) : Type 0 where
  pub rows : List (ValKey × Mark)
  pub under : AreUnder val_codec t prefix rows
  pub made : u ≡ with_changes val_codec t (map change rows)
  pub fits : AllByRecursion (IsChange val_codec) (map change rows)
  pub many : n ≡ length rows

-- these bytes are the copy of a row in another world, where it is inherited
pub record IsCopyOf (to : ℕ) (b c : List ℕ × List ℕ) : Type 0 where
  pub entry : ValKey × Mark
  pub spells : Spells val_codec b entry
  pub fits : IsChange val_codec (copied to entry)
  pub copy : c ≡ (val_bytes (to, entry.0.1, entry.0.2, entry.0.3), mark_bytes (entry.1.0, false))

-- these bytes are the copies of rows, one after the other
abbrev pub AreCopiesOf : ℕ → Listed → Listed → Type 0
AreCopiesOf to rows copies = AllZip (IsCopyOf to) rows copies

-- the row at an index became its copy
pub record BecomesCopy (to i : ℕ) (old new : Listed) : Type 0 where
  pub row : List ℕ
  pub copy : IsCopyOf to (slice_index_or old i ([], [])) (num_bytes to ++ drop 4 (slice_index_or old i ([], [])).0, row)
  pub becomes : new ≡ with_ends (num_bytes to) row old i

-- the row at an index is one of worlds
abbrev pub IsEntryAt : Listed → ℕ → Type 0
IsEntryAt rows i = IsEntryOf val_codec (slice_index_or rows i ([], [])).0 (slice_index_or rows i ([], [])).1
