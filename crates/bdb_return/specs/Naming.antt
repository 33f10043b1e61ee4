-- What a change named goes, or comes. Tables are told of by whichever base they store.
use Rattle.std.specs.Prelude.{ℕ, ◌+◌, ◌*◌, List}
use Rattle.bdb_base.specs.Bases.{Contents, IsValid, world_count}
use Rattle.bdb_base.specs.Causes.{Rises}
use Rattle.bdb_base.specs.declared.kinds.RelDef.{RelDef}
use Rattle.bdb_keep.specs.Seen.{Seen}
use Rattle.bdb_keep.specs.Tables.{Tables}
use Rattle.bdb_tables.specs.Stored.{Stores}
use Rattle.bdb_undo.specs.Changes.{CanName, named_forth}
use Rattle.bdb_undo.specs.declared.change.Named.{Named}
use Rattle.bdb_undo.specs.declared.change.Named.TheVariants.{Nothing, UserAdded, RelationAdded, UserDropped}

-- the base after what a change named
abbrev pub base_named : Named → Contents → Contents
base_named n a = record a { catalog = named_forth n a.catalog }

-- what a change named can be done to a base, and the base is valid before it and after it
pub record IsBetween (n : Named) (a : Contents) : Type 0 where
  pub can : CanName n a.catalog
  pub before : IsValid a.catalog a.stmts
  pub after : IsValid (named_forth n a.catalog) a.stmts

-- how many writes take away what was named, or add it, where there are so many worlds: one for the row of a user or a relation,
-- and two for the edge of each world for the user
abbrev pub name_writes : Named → ℕ → ℕ
name_writes Nothing worlds = 0
name_writes (UserAdded name) worlds = 2 * worlds + 1
name_writes (RelationAdded def) worlds = 1
name_writes (UserDropped uid name) worlds = 2 * worlds + 1

-- ---- what was named goes

-- tables store the base after what a change named
pub record MayLoseName (t : Tables) (n : Named) (a : Contents) : Type 0 where
  pub stored : Stores t (base_named n a)
  pub between : IsBetween n a

-- there is such a base
pub record SomeMayLoseName (t : Tables) (n : Named) : Type 0 where
  pub base : Contents
  pub may : MayLoseName t n base

-- whichever base this is, the tables store the base before it
abbrev pub LosesName : Tables → Tables → Named → Type 0
LosesName t u n = (a : Contents) → MayLoseName t n a → Stores u a

-- whichever base this is, so many writes were made
abbrev pub WritesLoss : Seen → Seen → Named → Type 0
WritesLoss old new n = (a : Contents) → MayLoseName old.kept n a → Rises (name_writes n (world_count a.stmts)) old.writes new.writes

-- a user was added last, whatever his name
pub record SomeUserIsLast (t : Tables) : Type 0 where
  pub name : List ℕ
  pub some : SomeMayLoseName t (UserAdded name)

-- whatever his name, he is gone, and his place is too
abbrev pub LosesLastUser : Tables → Tables → Type 0
LosesLastUser t u = (name : List ℕ) → LosesName t u (UserAdded name)

-- whatever the name of the user added last, so many writes were made
abbrev pub WritesLastUser : Seen → Seen → Type 0
WritesLastUser old new = (name : List ℕ) → WritesLoss old new (UserAdded name)

-- a relation was added last, whatever its definition
pub record SomeRelationIsLast (t : Tables) : Type 0 where
  pub def : RelDef
  pub some : SomeMayLoseName t (RelationAdded def)

-- whatever its definition, it is gone
abbrev pub LosesLastRelation : Tables → Tables → Type 0
LosesLastRelation t u = (def : RelDef) → LosesName t u (RelationAdded def)

-- whatever the definition of the relation added last, so many writes were made
abbrev pub WritesLastRelation : Seen → Seen → Type 0
WritesLastRelation old new = (def : RelDef) → WritesLoss old new (RelationAdded def)

-- ---- what was named comes

-- tables store the base before what a change named
pub record MayGetName (t : Tables) (n : Named) (a : Contents) : Type 0 where
  pub stored : Stores t a
  pub between : IsBetween n a

-- there is such a base
pub record SomeMayGetName (t : Tables) (n : Named) : Type 0 where
  pub base : Contents
  pub may : MayGetName t n base

-- whichever base this is, the tables store the base after it
abbrev pub GetsName : Tables → Tables → Named → Type 0
GetsName t u n = (a : Contents) → MayGetName t n a → Stores u (base_named n a)

-- whichever base this is, so many writes were made
abbrev pub WritesGain : Seen → Seen → Named → Type 0
WritesGain old new n = (a : Contents) → MayGetName old.kept n a → Rises (name_writes n (world_count a.stmts)) old.writes new.writes

-- a user can leave whose statements are gone, whatever his name
pub record SomeMayLeave (t : Tables) (uid : ℕ) : Type 0 where
  pub name : List ℕ
  pub some : SomeMayGetName t (UserDropped uid name)

-- whatever his name, he has left
abbrev pub Leaves : Tables → Tables → ℕ → Type 0
Leaves t u uid = (name : List ℕ) → GetsName t u (UserDropped uid name)

-- whatever the name of him who leaves, so many writes were made
abbrev pub WritesLeave : Seen → Seen → ℕ → Type 0
WritesLeave old new uid = (name : List ℕ) → WritesGain old new (UserDropped uid name)
