-- The rows of a file, and the tables whose rows they are.
use Rattle.std.specs.Prelude.{◌≡◌, ◌⊎◌, ℕ, List, [], ◌∷◌, map, Some}
use Rattle.std.specs.FinMap as fin
use Rattle.sqlite_value.specs.Order.{Row, column}
use Rattle.sqlite_trees.specs.Tree.{Trees}
use Rattle.sqlite_rules.specs.Lists.{Has}
use Rattle.sqlite.specs.Effect.{Database}
use Rattle.bdb_keep.specs.Tables.{Tables}
use Rattle.bdb_sql.specs.Entries.{IsFiledRow}
use Rattle.bdb_sql.specs.Kept.{kept_schema, no_schema}

-- each row stands for a row of the tables, and each row of the tables is among them
pub record AreAllRows (rows : List Row) (t : Tables) : Type 0 where
  pub each : (r : Row) → Has rows r → (tab : ℕ) × (key content : List ℕ) × IsFiledRow r tab key content × (fin.get t (tab ∷ key) ≡ Some content)
  pub all : (tab : ℕ) (key content : List ℕ) → fin.get t (tab ∷ key) ≡ Some content → (r : Row) × Has rows r × IsFiledRow r tab key content

-- the three columns of a stored row, which begins with its number
abbrev pub entry : Row → Row
entry r = column r 1 ∷ column r 2 ∷ column r 3 ∷ []

-- a database has nothing, and the tables have no rows, or it has the one table, with exactly their rows
abbrev pub StoresTables : Database → Tables → Type 0
StoresTables db t = ((db.schema ≡ no_schema) × (t ≡ fin.empty)) ⊎ ((db.schema ≡ kept_schema) × AreAllRows (map entry (db.trees 0)) t)

-- the stored rows are exactly those of the tables
abbrev pub TreesHave : Trees → Tables → Type 0
TreesHave trees t = AreAllRows (map entry (trees 0)) t
