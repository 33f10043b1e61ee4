-- When plans can be run over tables.
use Rattle.std.specs.Prelude.{◌≡◌, ℕ, ◌≤◌, List, Option, Some, length}
use Rattle.bdb_base.specs.declared.kinds.Stmt.{Stmt}
use Rattle.bdb_base.specs.declared.tuple.Tuple.{Tuple}
use Rattle.bdb_keep.specs.Tables.{Tables}
use Rattle.bdb_tables.specs.Grammar.{InGrammar}
use Rattle.bdb_tables.specs.Rows.{Tuples, HoldsTuples, HoldsRows}
use Rattle.bdb_exec.specs.Seen.{sight_of}

-- Every key and row is in the grammar, tables hold the tuples of some statements, each with a value for each column of its
-- relation's key, and the rows of worlds are those that some statements make, where keys are as long as the tables show.
pub record CanBeRun (t : Tables) : Type 0 where
  pub grammar : InGrammar t
  pub told : List Stmt
  pub tuples : Tuples
  pub held : HoldsTuples told tuples t
  pub whole : (tid : ℕ) (u : Tuple) → tuples.tuple tid ≡ Some u → (sight_of t).keys u.rel ≤ length u.vals
  pub stmts : List Stmt
  pub path : ℕ → Option (List ℕ)
  pub rows : HoldsRows (sight_of t).keys stmts path tuples.tuple t
