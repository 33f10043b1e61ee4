-- Rows for worlds that have come along a path.
use Rattle.std.specs.Prelude.{◌≡◌, ℕ, ◌+◌, ◌≤◌, Bool, true, List, length, Some, is_some}
use Rattle.std.specs.FinMap as tables
use Rattle.bdb_base.specs.Limits.{most_statements}
use Rattle.bdb_base.specs.States.{is_state}
use Rattle.bdb_base.specs.Worlds.{IsConsistent}
use Rattle.bdb_base.specs.declared.kinds.Stmt.{Stmt}
use Rattle.bdb_base.specs.declared.tuple.Tuple.{Tuple}
use Rattle.bdb_keep.specs.Tables.{Tables}
use Rattle.bdb_tables.specs.Codec.{HasAt, place}
use Rattle.bdb_tables.specs.InUse.{link_codec}
use Rattle.bdb_tables.specs.Names.{Names, AreNames, path_of, is_named}
use Rattle.bdb_tables.specs.Rows.{Tuples, HoldsTuples, HoldsRows, AreKeyLengths}
use Rattle.bdb_tables.specs.States.{HoldsStates}
use Rattle.bdb_val.specs.WorldCopies.{CopiesWorld}
use Rattle.bdb_worlds.specs.Growth.{with_prefixes, AreLeast}
use Rattle.bdb_update.specs.Differing.{has_told}
use Rattle.bdb_update.specs.Tallies.{HasRowCount}

-- the worlds of a base, the lengths of its keys and its statements
pub record Before : Type 0 where
  pub users : ℕ → Bool
  pub names : Names
  pub keys : ℕ → ℕ
  pub stmts : List Stmt
  pub tuples : Tuples
  pub path : List ℕ
  pub stood : ℕ

-- names with those that came
abbrev pub names_now : Before → List ℕ → Names
names_now s new = with_prefixes s.names s.path s.stood new

-- Worlds have come along a path, with these numbers: the tables hold them, and rows of the worlds before alone, which were the
-- states of the statements.
pub record HaveCome (s : Before) (t : Tables) (new : List ℕ) : Type 0 where
  pub names : AreNames s.names
  pub old : (w : List ℕ) → is_named s.names w ≡ is_state s.stmts w
  pub whole : s.stood + length new ≡ length s.path
  pub least : AreLeast s.names s.path s.stood new
  pub states : HoldsStates s.users (names_now s new) t
  pub more : (w : List ℕ) → is_named s.names w ≡ true → is_named (names_now s new) w ≡ true
  pub rows : HoldsRows s.keys s.stmts (path_of s.names) s.tuples.tuple t

-- there are such worlds
pub record SomeHaveCome (t : Tables) (new : List ℕ) : Type 0 where
  pub before : Before
  pub come : HaveCome before t new

-- whichever worlds they are, they have their rows too
abbrev pub FillsWorlds : Tables → Tables → List ℕ → Type 0
FillsWorlds t u new = (s : Before) → HaveCome s t new → HoldsRows s.keys s.stmts (path_of (names_now s new)) s.tuples.tuple u

-- the tuples of the worlds' statements have numbers, the lengths of keys are numbers of four bytes, no two statements of one path
-- clash, and they are not too many
pub record AreFillable (s : Before) (told : List Stmt) (t : Tables) : Type 0 where
  pub tuples : HoldsTuples told s.tuples t
  pub within : (u : Tuple) → has_told s.stmts u ≡ true → has_told told u ≡ true
  pub lengths : AreKeyLengths s.keys
  pub consistent : IsConsistent s.keys s.stmts
  pub few : length s.stmts ≤ most_statements

-- so many rows have come
abbrev pub CountsCome : Tables → Tables → List ℕ → ℕ → Type 0
CountsCome t u new n = (s : Before) (told : List Stmt) → HaveCome s t new → AreFillable s told t → (a z : ℕ) → HasRowCount t a → HasRowCount u z → z ≡ a + n

-- a world has a suffix link
abbrev pub HasSomeLink : Tables → ℕ → Type 0
HasSomeLink t wid = is_some (tables.get t (place link_codec wid)) ≡ true

-- a world has got the rows of the world to which its suffix link leads
pub record IsWorldFilled (t u : Tables) (wid : ℕ) : Type 0 where
  pub link : ℕ
  pub linked : HasAt link_codec t wid (Some link)
  pub copied : CopiesWorld t u link wid
