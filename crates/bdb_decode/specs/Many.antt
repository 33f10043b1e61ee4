-- Explicit rows that make more statements than a base may have.
use Rattle.std.specs.Prelude.{◌≡◌, ◌<◌, ◌⊎◌, ℕ, true, List, length, Some}
use Rattle.std.specs.List.{AllByRecursion, flat_map, list_all}
use Rattle.std.specs.FinMap as tables
use Rattle.bdb_base.specs.Limits.{most_statements}
use Rattle.bdb_base.specs.SortedSet.{ascending}
use Rattle.bdb_keep.specs.Tables.{Tables}
use Rattle.bdb_key.specs.Rows.{mark_bytes}
use Rattle.bdb_tables.specs.Codec.{place}
use Rattle.bdb_tables.specs.InUse.{IsValKey, val_codec}
use Rattle.bdb_tables.specs.Spans.{entry_cmp}
use Rattle.bdb_decode.specs.Explicit.{AreMisplaced, Paths, TupleRows, ValRow, is_placed, said}

-- a row is one of table 11
pub record IsRowThere (t : Tables) (e : ValRow) : Type 0 where
  pub fits : IsValKey e.0
  pub found : tables.get t (place val_codec e.0) ≡ Some (mark_bytes e.1)

-- these rows are some of table 11, each has its place, and the explicit ones make too many statements
pub record HaveTooMany (keys : ℕ → ℕ) (t : Tables) (worlds : Paths) (tuples : TupleRows) : Type 0 where
  pub rows : List ValRow
  pub there : AllByRecursion (IsRowThere t) rows
  pub sorted : ascending (entry_cmp val_codec) rows ≡ true
  pub placed : list_all (is_placed keys worlds tuples) rows ≡ true
  pub many : most_statements < length (flat_map (said worlds tuples) rows)

-- a key or a row is none of table 11, or has not its place; or the explicit rows make too many statements
abbrev pub HaveNoStatements : (ℕ → ℕ) → Tables → Paths → TupleRows → Type 0
HaveNoStatements keys t worlds tuples = AreMisplaced keys t worlds tuples ⊎ HaveTooMany keys t worlds tuples
