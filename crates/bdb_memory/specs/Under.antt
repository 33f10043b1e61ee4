-- The rows of entries whose places begin with some bytes.
use Rattle.std.specs.Prelude.{◌≡◌, ℕ, ◌⊎◌, false, cond, IsTrue}
use Rattle.std.specs.Prelude.{List, [], ◌∷◌, ◌++◌, drop, Option, Some, None}
use Rattle.std.specs.Ordering.{is_le}
use Rattle.bdb_base.specs.Segments.{is_prefix}
use Rattle.bdb_keep.specs.Tables.{bytes_cmp}
use Rattle.bdb_memory.specs.Entries.{Entries}
use Rattle.bdb_keep.specs.Spans.{Listed}

-- the row of an entry whose place begins so: the table's number isn't part of the key
abbrev pub row_under : List ℕ → List ℕ → Option (List ℕ) → Listed
row_under p place None = []
row_under p place (Some row) = cond (is_prefix p place) ((drop 1 place, row) ∷ []) []

-- the rows of the entries whose places begin so
abbrev pub entries_under : List ℕ → Entries → Listed
entries_under p [] = []
entries_under p (e ∷ es) = row_under p e.0 e.1 ++ entries_under p es

-- among some entries there is one above the places that begin so
abbrev pub HasPast : List ℕ → Entries → Type 0
HasPast p [] = ⊥
HasPast p (e ∷ es) = (IsTrue (is_le (bytes_cmp p e.0)) × (is_prefix p e.0 ≡ false)) ⊎ HasPast p es
