-- What copying a world's rows to another world does, and what clearing a world does.
use Rattle.std.specs.Prelude.{◌≡◌, ℕ, false, nat_eq, List, length, Option, Some, None, cond}
use Rattle.std.specs.FinMap as tables
use Rattle.bdb_keep.specs.Seen.{Seen}
use Rattle.bdb_keep.specs.Tables.{Tables}
use Rattle.bdb_tables.specs.Codec.{place}
use Rattle.bdb_tables.specs.InUse.{ValKey, IsValKey, val_codec}
use Rattle.bdb_tables.specs.Marks.{Mark}
use Rattle.bdb_tables.specs.Spans.{AreUnder}
use Rattle.bdb_tables.specs.Writes.{Gives}
use Rattle.bdb_val.specs.Counts.{TellsDifferences}
use Rattle.bdb_val.specs.Reads.{world_prefix}

-- a row as an inherited one; where there is none, another
abbrev pub inherited_or : Option Mark → Option Mark → Option Mark
inherited_or None other = other
inherited_or (Some m) other = Some (m.0, false)

-- a key of the rows of another world
abbrev pub key_in : ℕ → ValKey → ValKey
key_in wid k = (wid, k.1, k.2, k.3)

-- the rows of all worlds, where one gets those of another as inherited ones
abbrev pub rows_copied : (ValKey → Option Mark) → ℕ → ℕ → ValKey → Option Mark
rows_copied f from to k = cond (nat_eq k.0 to) (inherited_or (f (key_in from k)) (f k)) (f k)

-- the rows of all worlds, where one has none
abbrev pub rows_cleared : (ValKey → Option Mark) → ℕ → ValKey → Option Mark
rows_cleared f wid k = cond (nat_eq k.0 wid) None (f k)

-- whichever rows tables have, a world has got those of another as inherited ones
abbrev pub CopiesWorld : Tables → Tables → ℕ → ℕ → Type 0
CopiesWorld t u from to = (f : ValKey → Option Mark) → Gives val_codec t f → Gives val_codec u (rows_copied f from to)

-- whichever rows tables have, a world has lost its own
abbrev pub ClearsWorld : Tables → Tables → ℕ → Type 0
ClearsWorld t u wid = (f : ValKey → Option Mark) → Gives val_codec t f → Gives val_codec u (rows_cleared f wid)

-- so many rows has a world
pub record IsRowCount (t : Tables) (wid : ℕ) (n : ℕ) : Type 0 where
  pub rows : List (ValKey × Mark)
  pub under : AreUnder val_codec t (world_prefix wid) rows
  pub many : n ≡ length rows

-- a world has no row
abbrev pub IsBareWorld : Tables → ℕ → Type 0
IsBareWorld t wid = (k : ValKey) → IsValKey k → k.0 ≡ wid → tables.get t (place val_codec k) ≡ None

-- where the world to which rows were copied had none, so many came, each by one write
abbrev pub TellsCopy : Seen → Seen → ℕ → ℕ → Type 0
TellsCopy old new to n = IsBareWorld old.kept to → TellsDifferences old new n 0
