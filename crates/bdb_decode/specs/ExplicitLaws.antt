-- What the statements that explicit rows make are to the tables. Each law is the contract of a function of `laws`.
use Rattle.std.specs.Prelude.{◌≡◌, ◌≤◌, ℕ, true, List, length, Option, Some}
use Rattle.bdb_base.specs.Limits.{most_statements}
use Rattle.bdb_base.specs.Order.{statement_cmp}
use Rattle.bdb_base.specs.SortedSet.{ascending}
use Rattle.bdb_base.specs.Worlds.{IsConsistent}
use Rattle.bdb_base.specs.declared.kinds.Stmt.{Stmt}
use Rattle.bdb_base.specs.declared.tuple.Tuple.{Tuple}
use Rattle.bdb_keep.specs.Tables.{Tables}
use Rattle.bdb_key.specs.Grammar.{IsNum}
use Rattle.bdb_tables.specs.InUse.{ValKey, tuple_codec, val_codec}
use Rattle.bdb_tables.specs.Marks.{Mark}
use Rattle.bdb_tables.specs.Names.{Names, AreNames, is_named, path_of}
use Rattle.bdb_tables.specs.Rows.{AreKeyLengths, Tuples, HoldsRows, HoldsTuples}
use Rattle.bdb_tables.specs.Writes.{Gives}
use Rattle.bdb_val.specs.Middle.{HasExplicit, worlds_of}
use Rattle.bdb_val.specs.Settled.{HasStates}
use Rattle.bdb_decode.specs.Explicit.{AreMisplaced, ArePlaced, AreStated, Paths, TupleRows, ValRow}
use Rattle.bdb_decode.specs.Items.{item_of}
use Rattle.bdb_decode.specs.Many.{HaveNoStatements}

-- the worlds of a list have names
pub record AreNamedWorlds (worlds : Paths) (ns : Names) : Type 0 where
  pub names : AreNames ns
  pub paths : (n : ℕ) → path_of ns n ≡ item_of worlds n

-- a table has the tuples of a list, no tuple twice
pub record HaveNumbers (t : Tables) (tuples : TupleRows) : Type 0 where
  pub gives : Gives tuple_codec t (item_of tuples)
  pub once : (a b : ℕ) (u : Tuple) → item_of tuples a ≡ Some u → item_of tuples b ≡ Some u → a ≡ b
  pub sized : (n : ℕ) (u : Tuple) → item_of tuples n ≡ Some u → IsNum n

-- where no two of the statements that explicit rows make clash at a path, the explicit rows are the statements
abbrev pub StatedRowsAreExplicit : Type 0
StatedRowsAreExplicit = (keys : ℕ → ℕ) (t : Tables) (worlds : Paths) (tuples : TupleRows) (ns : Names) (stmts : List Stmt) (f : ValKey → Option Mark)
    → AreKeyLengths keys → AreNamedWorlds worlds ns → HaveNumbers t tuples → AreStated keys t worlds tuples stmts → Gives val_codec t f → IsConsistent keys stmts
    → HasExplicit keys stmts (worlds_of ns) (item_of tuples) f t

-- where tables hold the rows of statements, no row of table 11 is foreign or without its place
abbrev pub HeldRowsHavePlaces : Type 0
HeldRowsHavePlaces = (keys : ℕ → ℕ) (stmts : List Stmt) (ns : Names) (ts : Tuples) (t : Tables) (worlds : Paths) (tuples : TupleRows)
    → AreNamedWorlds worlds ns → ((n : ℕ) → ts.tuple n ≡ item_of tuples n) → HoldsTuples stmts ts t → HoldsRows keys stmts (path_of ns) ts.tuple t → AreMisplaced keys t worlds tuples → ⊥

-- where tables hold the rows of statements, the explicit rows make these statements
abbrev pub HeldRowsMakeStatements : Type 0
HeldRowsMakeStatements = (keys : ℕ → ℕ) (stmts xs : List Stmt) (ns : Names) (ts : Tuples) (t : Tables) (worlds : Paths) (tuples : TupleRows)
    → AreKeyLengths keys → AreNamedWorlds worlds ns → ((n : ℕ) → ts.tuple n ≡ item_of tuples n) → HasStates stmts (is_named ns) → IsConsistent keys stmts → ascending statement_cmp stmts ≡ true
    → HoldsTuples stmts ts t → HoldsRows keys stmts (path_of ns) ts.tuple t → AreStated keys t worlds tuples xs → xs ≡ stmts

-- rows that have their places aren't those of tables in which a row is foreign or without its place
abbrev pub MisplacedHaveNoPlaces : Type 0
MisplacedHaveNoPlaces = (keys : ℕ → ℕ) (t : Tables) (worlds : Paths) (tuples : TupleRows) (rows : List ValRow) → AreMisplaced keys t worlds tuples → ArePlaced keys t worlds tuples rows → ⊥

-- rows that make statements few enough for a base are neither misplaced nor too many
abbrev pub FewHaveStatements : Type 0
FewHaveStatements = (keys : ℕ → ℕ) (t : Tables) (worlds : Paths) (tuples : TupleRows) (stmts : List Stmt)
    → AreStated keys t worlds tuples stmts → length stmts ≤ most_statements → HaveNoStatements keys t worlds tuples → ⊥
