-- When tables hold the tuples of statements, each under a number, and the rows of the worlds that have names.
use Rattle.std.specs.Prelude.{◌≡◌, ℕ, Bool, ◌&&◌, nat_eq, List, Option, Some, None, is_some, cond}
use Rattle.std.specs.List.{list_any}
use Rattle.bdb_base.specs.declared.kinds.Stmt.{Stmt}
use Rattle.bdb_base.specs.declared.tuple.Tuple.{Tuple}
use Rattle.bdb_base.specs.Clash.{key_of}
use Rattle.bdb_base.specs.Same.{same_tuple, same_values}
use Rattle.bdb_keep.specs.Tables.{Tables}
use Rattle.bdb_key.specs.Grammar.{IsNum}
use Rattle.bdb_tables.specs.InUse.{ValKey, tuple_codec, tuple_ix_codec, val_codec}
use Rattle.bdb_tables.specs.Marks.{Mark, mark_of}
use Rattle.bdb_tables.specs.Writes.{Gives}

-- which tuple each number stands for, and which number stands for each tuple
pub record Tuples : Type 0 where
  pub tuple : ℕ → Option Tuple
  pub number : Tuple → Option ℕ

-- the tables hold the tuples of statements: each has a number of four bytes of its own, and no other tuple has one
pub record HoldsTuples (stmts : List Stmt) (ts : Tuples) (t : Tables) : Type 0 where
  pub tuples : Gives tuple_codec t ts.tuple
  pub numbers : Gives tuple_ix_codec t ts.number
  pub named : (tid : ℕ) (u : Tuple) → ts.tuple tid ≡ Some u → ts.number u ≡ Some tid
  pub numbered : (u : Tuple) (tid : ℕ) → ts.number u ≡ Some tid → ts.tuple tid ≡ Some u
  pub sized : (tid : ℕ) (u : Tuple) → ts.tuple tid ≡ Some u → IsNum tid
  pub stated : (u : Tuple) → is_some (ts.number u) ≡ list_any (λ x. same_tuple x.tuple u) stmts

-- the length of each relation's keys is a number of four bytes, where the relation's number is one
abbrev pub AreKeyLengths : (ℕ → ℕ) → Type 0
AreKeyLengths keys = (rel : ℕ) → IsNum rel → IsNum (keys rel)

-- a tuple has the relation and the key of a row's key
abbrev pub has_key : (ℕ → ℕ) → ValKey → Tuple → Bool
has_key keys k u = nat_eq u.rel k.1 && same_values (key_of keys u) k.2

-- the row of a world and a tuple that have names, where the key is the tuple's
abbrev pub row_named : (ℕ → ℕ) → List Stmt → ValKey → Option (List ℕ) → Option Tuple → Option Mark
row_named keys stmts k None u = None
row_named keys stmts k (Some w) None = None
row_named keys stmts k (Some w) (Some u) = cond (has_key keys k u) (mark_of keys stmts w u) None

-- the rows of the worlds whose paths have numbers, for the tuples that have numbers
abbrev pub row_for : (ℕ → ℕ) → List Stmt → (ℕ → Option (List ℕ)) → (ℕ → Option Tuple) → ValKey → Option Mark
row_for keys stmts path tuple k = row_named keys stmts k (path k.0) (tuple k.3)

-- the tables hold exactly these rows
abbrev pub HoldsRows : (ℕ → ℕ) → List Stmt → (ℕ → Option (List ℕ)) → (ℕ → Option Tuple) → Tables → Type 0
HoldsRows keys stmts path tuple t = Gives val_codec t (row_for keys stmts path tuple)
