-- Which numbers of worlds and of tuples stay, and which come.
use Rattle.std.specs.Prelude.{◌≡◌, ℕ, ◌+◌, List, ◌∷◌, length, Some}
use Rattle.std.specs.FinMap as tables
use Rattle.bdb_base.specs.Bases.{Contents}
use Rattle.bdb_base.specs.declared.kinds.Stmt.{Stmt}
use Rattle.bdb_base.specs.Changes.{without_statements}
use Rattle.bdb_canon.specs.declared.sizes.Counts.{Counts}
use Rattle.bdb_keep.specs.Seen.{Seen}
use Rattle.bdb_keep.specs.Tables.{Tables}
use Rattle.bdb_tables.specs.Names.{Names, path_of}
use Rattle.bdb_tables.specs.States.{HoldsStates, IsNamed}
use Rattle.bdb_tables.specs.Stored.{Stores}
use Rattle.bdb_worlds.specs.Growth.{AreLeast, with_prefixes}
use Rattle.bdb_worlds.specs.Holding.{Worlds}
use Rattle.bdb_update.specs.Calls.{MayChange, with_stmts}
use Rattle.bdb_update.specs.Replacing.{MayReplaceAll}

-- ---- what stays

-- a number that stands for a path, by the tables alone, goes on to stand for it
abbrev pub KeepsNames : Tables → Tables → Type 0
KeepsNames t u = (n : ℕ) (w : List ℕ) → IsNamed t n w → IsNamed u n w

-- each row of a tuple stays, under its number
abbrev pub KeepsTuples : Tables → Tables → Type 0
KeepsTuples t u = (k r : List ℕ) → tables.get t (4 ∷ k) ≡ Some r → tables.get u (4 ∷ k) ≡ Some r

-- numbers of worlds and of tuples go on to stand for what they stood for
pub record KeepsNumbers (t u : Tables) : Type 0 where
  pub worlds : KeepsNames t u
  pub tuples : KeepsTuples t u

-- numbers of worlds and of tuples stand for the same in both
pub record SameNumbers (t u : Tables) : Type 0 where
  pub forth : KeepsNumbers t u
  pub back : KeepsNumbers u t

-- ---- what comes

-- Names are those of before and of the prefixes of a path, from the one with a user more than `stood` on. These have the
-- numbers `new`, shortest first, each of which was the least one not in use.
pub record GrowByLeast (ns ms : Names) (path : List ℕ) : Type 0 where
  pub stood : ℕ
  pub new : List ℕ
  pub whole : stood + length new ≡ length path
  pub least : AreLeast ns path stood new
  pub names : (n : ℕ) → path_of ms n ≡ path_of (with_prefixes ns path stood new) n

-- whichever worlds tables hold, and others afterwards, those that came are prefixes of a path, with the least numbers
abbrev pub TakesLeastNames : Tables → Tables → List ℕ → Type 0
TakesLeastNames t u path = (s z : Worlds) → HoldsStates s.users s.names t → HoldsStates z.users z.names u → GrowByLeast s.names z.names path

-- ---- statements go, and others come

-- Tables in the middle store a base: all their numbers stood for the same before, and go on to stand for it. Worlds and
-- tuples of statements that neither go nor come so keep their numbers.
pub record KeepsBetween (middle : Contents) (old new : Tables) : Type 0 where
  pub between : Tables
  pub stored : Stores between middle
  pub before : KeepsNumbers between old
  pub after : KeepsNumbers between new

-- whichever base the tables store, the one in the middle is that without the statements that go

abbrev pub ReplaceKeeps : Counts → List Stmt → List Stmt → Seen → Seen → Type 0
ReplaceKeeps counts gone come old new = (b : Contents) → MayReplaceAll old.kept counts gone come b → KeepsBetween (with_stmts b (without_statements b.stmts gone)) old.kept new.kept

abbrev pub ChangeKeeps : Counts → List ℕ → List Stmt → List Stmt → Seen → Seen → Type 0
ChangeKeeps counts w gone come old new = (b : Contents) → MayChange old.kept counts w gone come b → KeepsBetween (with_stmts b (without_statements b.stmts gone)) old.kept new.kept
