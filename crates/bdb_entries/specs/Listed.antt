-- The rows of a table as a list, and what a function gives of each key.
use Rattle.std.specs.Prelude.{◌≡◌, true, List, [], Option, MatchOption, map}
use Rattle.std.specs.List.{AllByRecursion}
use Rattle.std.specs.Option.{option_map}
use Rattle.std.specs.FinMap.{find}
use Rattle.bdb_base.specs.SortedSet.{ascending}
use Rattle.bdb_keep.specs.Tables.{bytes_cmp}
use Rattle.bdb_tables.specs.Codec.{Codec}
use Rattle.bdb_tables.specs.Spans.{IsUnder, entry_bytes, entry_cmp}

-- These are the keys and rows that a function gives, in order.
pub record Lists {Key Row : Type 0} (c : Codec Key Row) (f : Key → Option Row) (es : List (Key × Row)) : Type 0 where
  pub each : AllByRecursion (IsUnder c []) es
  pub sorted : ascending (entry_cmp c) es ≡ true
  pub same : (k : Key) → c.IsKey k → option_map c.row_bytes (f k) ≡ find bytes_cmp (c.key_bytes k) (map (entry_bytes c) es)
  pub written : (k : Key) → c.IsKey k → MatchOption (f k) (Unit {0}) c.IsRow
