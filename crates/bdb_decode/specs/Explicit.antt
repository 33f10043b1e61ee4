-- The rows of worlds by the names of worlds and tuples, and the statements that the explicit ones make. `keys` gives the length of
-- each relation's key.
use Rattle.std.specs.Prelude.{◌≡◌, ◌⊎◌, ℕ, Bool, true, false, List, [], ◌∷◌, Option, Some, None, cond}
use Rattle.std.specs.List.{flat_map, list_all}
use Rattle.std.specs.List.Sorted.{IsPermutation, IsSortedBy}
use Rattle.std.specs.Ordering.{is_lt}
use Rattle.std.specs.FinMap as tables
use Rattle.bdb_base.specs.Order.{statement_cmp}
use Rattle.bdb_base.specs.declared.kinds.Stmt.{Stmt}
use Rattle.bdb_base.specs.declared.tuple.Tuple.{Tuple}
use Rattle.bdb_keep.specs.Tables.{Tables}
use Rattle.bdb_key.specs.Rows.{mark_bytes}
use Rattle.bdb_tables.specs.Codec.{place}
use Rattle.bdb_tables.specs.InUse.{ValKey, IsValKey, val_codec}
use Rattle.bdb_tables.specs.Marks.{Mark}
use Rattle.bdb_tables.specs.Spans.{AreUnder}
use Rattle.bdb_val.specs.Reads.{is_of_group}
use Rattle.bdb_entries.specs.Reading.{Misfits}
use Rattle.bdb_decode.specs.Items.{item_of}

-- a row of table 11
abbrev pub ValRow : Type 0
ValRow = ValKey × Mark

-- worlds' paths by number
abbrev pub Paths : Type 0
Paths = List (ℕ × List ℕ)

-- tuples by number
abbrev pub TupleRows : Type 0
TupleRows = List (ℕ × Tuple)

-- a row has its place: its world has a path, its tuple a number, and its relation and key are the tuple's
abbrev pub is_placed_by : (ℕ → ℕ) → Option (List ℕ) → Option Tuple → ValRow → Bool
is_placed_by keys None u e = false
is_placed_by keys (Some w) None e = false
is_placed_by keys (Some w) (Some u) e = is_of_group keys e.0.1 e.0.2 u

abbrev pub is_placed : (ℕ → ℕ) → Paths → TupleRows → ValRow → Bool
is_placed keys worlds tuples e = is_placed_by keys (item_of worlds e.0.0) (item_of tuples e.0.3) e

-- a row of a tuple at a path, if it is explicit, as a statement
abbrev pub said_by_row : List ℕ → Tuple → ValRow → List Stmt
said_by_row w u e = cond e.1.1 ((record { path = w; sign = e.1.0; tuple = u }) ∷ []) []

-- the same, where there are a path and a tuple
abbrev pub said_by : Option (List ℕ) → Option Tuple → ValRow → List Stmt
said_by None u e = []
said_by (Some w) None e = []
said_by (Some w) (Some u) e = said_by_row w u e

abbrev pub said : Paths → TupleRows → ValRow → List Stmt
said worlds tuples e = said_by (item_of worlds e.0.0) (item_of tuples e.0.3) e

-- these are the rows of table 11, and each has its place
pub record ArePlaced (keys : ℕ → ℕ) (t : Tables) (worlds : Paths) (tuples : TupleRows) (rows : List ValRow) : Type 0 where
  pub under : AreUnder val_codec t [] rows
  pub placed : list_all (is_placed keys worlds tuples) rows ≡ true

-- table 11 has a row that hasn't its place
pub record HasStray (keys : ℕ → ℕ) (t : Tables) (worlds : Paths) (tuples : TupleRows) : Type 0 where
  pub row : ValRow
  pub fits : IsValKey row.0
  pub there : tables.get t (place val_codec row.0) ≡ Some (mark_bytes row.1)
  pub stray : is_placed keys worlds tuples row ≡ false

-- a key or a row is none of table 11, or has not its place
abbrev pub AreMisplaced : (ℕ → ℕ) → Tables → Paths → TupleRows → Type 0
AreMisplaced keys t worlds tuples = Misfits val_codec t ⊎ HasStray keys t worlds tuples

-- the rows of table 11 have their places, and these are the statements that the explicit ones make, row by row
pub record AreSaid (keys : ℕ → ℕ) (t : Tables) (worlds : Paths) (tuples : TupleRows) (stmts : List Stmt) : Type 0 where
  pub rows : List ValRow
  pub are : ArePlaced keys t worlds tuples rows
  pub said : stmts ≡ flat_map (said worlds tuples) rows

-- the same statements in their order
pub record AreStated (keys : ℕ → ℕ) (t : Tables) (worlds : Paths) (tuples : TupleRows) (stmts : List Stmt) : Type 0 where
  pub made : List Stmt
  pub are : AreSaid keys t worlds tuples made
  pub moved : IsPermutation made stmts
  pub sorted : IsSortedBy (λ a b. is_lt (statement_cmp a b)) stmts
