-- A change is taken back, or made again, in a stored base. Tables are told of by whichever base they store.
use Rattle.std.specs.Prelude.{List}
use Rattle.bdb_base.specs.Bases.{Contents, world_count}
use Rattle.bdb_base.specs.Causes.{Rises}
use Rattle.bdb_base.specs.declared.kinds.Stmt.{Stmt}
use Rattle.bdb_base.specs.Changes.{without_statements}
use Rattle.bdb_canon.specs.declared.sizes.Counts.{Counts}
use Rattle.bdb_keep.specs.Seen.{Seen}
use Rattle.bdb_keep.specs.Tables.{Tables}
use Rattle.bdb_tables.specs.Stored.{Stores}
use Rattle.bdb_undo.specs.Changes.{Leads}
use Rattle.bdb_undo.specs.declared.change.Change.{Change}
use Rattle.bdb_undo.specs.declared.change.Named.{Named}
use Rattle.bdb_update.specs.Calls.{StoresSized}
use Rattle.bdb_update.specs.Keeping.{SameNumbers}
use Rattle.bdb_update.specs.Steps.{WritesThrough, steps_with, steps_without}
use Rattle.bdb_return.specs.Naming.{name_writes}

-- ---- how often is written

-- the base in the middle: the statements that are left, under the names afterwards
abbrev pub base_between : Contents → Contents → List Stmt → Contents
base_between from to out = record { catalog = to.catalog; stmts = without_statements from.stmts out }

-- The statements that go are taken away one after the other, each with as many writes as are told of taking it away by itself.
-- Then the name is written: the tables store the base in the middle, and numbers of worlds and of tuples stand for the same as before.
-- Then the statements that come are added, each with as many writes as are told of adding it by itself.
pub record WritesBetween (n : Named) (from to : Contents) (out inn : List Stmt) (old new : Seen) : Type 0 where
  pub left : Seen
  pub named : Seen
  pub gone : WritesThrough old (steps_without from out) left
  pub name : Rises (name_writes n (world_count (without_statements from.stmts out))) left.writes named.writes
  pub stored : Stores named.kept (base_between from to out)
  pub numbers : SameNumbers left.kept named.kept
  pub come : WritesThrough named (steps_with (base_between from to out) inn) new

-- ---- back

-- tables store a valid base of these sizes, to which a change leads from another
pub record MayGoBack (t : Tables) (counts : Counts) (c : Change) (a b : Contents) : Type 0 where
  pub base : StoresSized t counts b
  pub leads : Leads c a b

-- there are such bases
pub record SomeMayGoBack (t : Tables) (counts : Counts) (c : Change) : Type 0 where
  pub from : Contents
  pub to : Contents
  pub may : MayGoBack t counts c from to

-- whichever bases these are, the tables store the one from which the change leads, of these sizes
abbrev pub GoesBack : Tables → Tables → Counts → Counts → Change → Type 0
GoesBack t u before after c = (a b : Contents) → MayGoBack t before c a b → StoresSized u after a

-- whichever bases these are, so many writes were made
abbrev pub BackThrough : Counts → Change → Seen → Seen → Type 0
BackThrough counts c old new = (a b : Contents) → MayGoBack old.kept counts c a b → WritesBetween c.named b a c.come c.gone old new

-- ---- forth

-- tables store a valid base of these sizes, from which a change leads to another
pub record MayGoForth (t : Tables) (counts : Counts) (c : Change) (a b : Contents) : Type 0 where
  pub base : StoresSized t counts a
  pub leads : Leads c a b

-- there are such bases
pub record SomeMayGoForth (t : Tables) (counts : Counts) (c : Change) : Type 0 where
  pub from : Contents
  pub to : Contents
  pub may : MayGoForth t counts c from to

-- whichever bases these are, the tables store the one to which the change leads, of these sizes
abbrev pub GoesForth : Tables → Tables → Counts → Counts → Change → Type 0
GoesForth t u before after c = (a b : Contents) → MayGoForth t before c a b → StoresSized u after b

-- whichever bases these are, so many writes were made
abbrev pub ForthThrough : Counts → Change → Seen → Seen → Type 0
ForthThrough counts c old new = (a b : Contents) → MayGoForth old.kept counts c a b → WritesBetween c.named a b c.gone c.come old new
