-- Changes of rows, and what a table has, told by a function of its keys.
use Rattle.std.specs.Prelude.{◌≡◌, cond, List, [], ◌∷◌, Option, MatchOption}
use Rattle.std.specs.Ordering.{is_eq}
use Rattle.std.specs.Option.{option_map}
use Rattle.std.specs.FinMap as tables
use Rattle.bdb_keep.specs.Tables.{Tables, set_at}
use Rattle.bdb_tables.specs.Codec.{Codec, TableFits, place}

module _ {Key Row : Type 0} where
  -- the tables with this row at a key, or with none there
  abbrev pub with_change : Codec Key Row → Tables → Key × Option Row → Tables
  with_change c t x = set_at t (place c x.0) (option_map c.row_bytes x.1)

  -- the tables with changes, made one after the other
  abbrev pub with_changes : Codec Key Row → Tables → List (Key × Option Row) → Tables
  with_changes c t [] = t
  with_changes c t (x ∷ xs) = with_changes c (with_change c t x) xs

  -- what whoever hands a change in has to know
  pub record MayBeChange (c : Codec Key Row) (x : Key × Option Row) : Type 0 where
    pub key : c.MayBeKey x.0
    pub row : MatchOption x.1 (Unit {0}) c.MayBeRow

  -- a change whose key and row are in the grammar
  pub record IsChange (c : Codec Key Row) (x : Key × Option Row) : Type 0 where
    pub key : c.IsKey x.0
    pub row : MatchOption x.1 (Unit {0}) c.IsRow

  -- A table has exactly what a function gives: each key's row is that of the function, and there is no other row.
  pub record Gives (c : Codec Key Row) (t : Tables) (f : Key → Option Row) : Type 0 where
    pub fits : TableFits c t
    pub rows : (key : Key) → c.IsKey key → tables.get t (place c key) ≡ option_map c.row_bytes (f key)
    pub written : (key : Key) → c.IsKey key → MatchOption (f key) (Unit {0}) c.IsRow

  -- a function with another answer at one key
  abbrev pub with_row_at : Codec Key Row → (Key → Option Row) → Key × Option Row → Key → Option Row
  with_row_at c f x q = cond (is_eq (c.key_cmp q x.0)) x.1 (f q)

  -- a function with other answers at the keys of changes, of which the last counts
  abbrev pub with_rows_at : Codec Key Row → (Key → Option Row) → List (Key × Option Row) → Key → Option Row
  with_rows_at c f [] = f
  with_rows_at c f (x ∷ xs) = with_rows_at c (with_row_at c f x) xs
