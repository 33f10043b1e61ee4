-- Rows as they are found, of which no more are kept than one above a limit.
use Rattle.std.specs.Prelude.{ℕ, Bool, nat_le, List, [], ◌∷◌, length, cond}
use Rattle.bdb_base.specs.declared.kinds.Value.{Value}
use Rattle.bdb_base.specs.Order.{row_cmp}
use Rattle.bdb_base.specs.SortedSet.{put_in}

-- the values of a row
abbrev pub Values : Type 0
Values = List Value

-- the rows so far, in order, each once, and how many there may be
pub record Collected : Type 0 where
  pub rows : List (List Value)
  pub most : ℕ

-- there are not too many
abbrev pub has_room : Collected → Bool
has_room f = nat_le (length f.rows) f.most

-- with one more row, unless there are too many already
abbrev pub with_row : Collected → List Value → Collected
with_row f row = cond (has_room f) (record { rows = put_in row_cmp f.rows row; most = f.most }) f

-- with more rows, the first one first
abbrev pub with_rows : Collected → List (List Value) → Collected
with_rows f [] = f
with_rows f (row ∷ rows) = with_rows (with_row f row) rows
