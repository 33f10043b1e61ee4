-- Which tuples and which paths statements have.
use Rattle.std.specs.Prelude.{ℕ, Bool, List}
use Rattle.std.specs.List.{list_all}
use Rattle.std.specs.declared.cmp.Ordering.{Ordering}
use Rattle.bdb_base.specs.Bases.{has_tuple}
use Rattle.bdb_base.specs.SortedSet.{is_member}
use Rattle.bdb_base.specs.States.{is_state}
use Rattle.bdb_base.specs.declared.kinds.Stmt.{Stmt}
use Rattle.bdb_decode.specs.Explicit.{Paths, TupleRows}

-- each item is in a set
abbrev pub all_in : {X : Type 0} → (X → X → Ordering) → List X → List (ℕ × X) → Bool
all_in R set items = list_all (λ e. is_member R set e.1) items

-- each tuple is that of a statement
abbrev pub all_stated : List Stmt → TupleRows → Bool
all_stated stmts tuples = list_all (λ e. has_tuple stmts e.1) tuples

-- each path is a state
abbrev pub all_states : List Stmt → Paths → Bool
all_states stmts worlds = list_all (λ e. is_state stmts e.1) worlds
