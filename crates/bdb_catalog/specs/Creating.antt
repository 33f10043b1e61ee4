-- What is added to the catalog of the base that tables store.
use Rattle.std.specs.Prelude.{◌≡◌, ℕ, ◌+◌, ◌*◌, List, length}
use Rattle.bdb_base.specs.Bases.{Contents, IsValid, with_user, with_relation, world_count}
use Rattle.bdb_base.specs.Causes.{Rises}
use Rattle.bdb_base.specs.declared.kinds.RelDef.{RelDef}
use Rattle.bdb_keep.specs.Seen.{Seen}
use Rattle.bdb_keep.specs.Tables.{Tables}
use Rattle.bdb_update.specs.StoredLaws.{with_gone_place}
use Rattle.bdb_catalog.specs.Bases.{StoresValid}

-- the base with one relation more
abbrev pub with_one_relation : Contents → RelDef → Contents
with_one_relation b def = record b { catalog = with_relation b.catalog def }

-- tables store a valid base, to which a relation of the next number may be added
pub record MayAddRelation (t : Tables) (rel : ℕ) (def : RelDef) (b : Contents) : Type 0 where
  pub base : StoresValid t b
  pub next : rel ≡ length b.catalog.rels
  pub valid : IsValid (with_relation b.catalog def) b.stmts

-- there is such a base
pub record SomeMayAddRelation (t : Tables) (rel : ℕ) (def : RelDef) : Type 0 where
  pub base : Contents
  pub may : MayAddRelation t rel def base

-- whichever base it is, the tables store it with the relation
abbrev pub AddsRelation : Tables → Tables → ℕ → RelDef → Type 0
AddsRelation t u rel def = (b : Contents) → MayAddRelation t rel def b → StoresValid u (with_one_relation b def)

-- the base with one user more
abbrev pub with_one_user : Contents → List ℕ → Contents
with_one_user b name = record b { catalog = with_user b.catalog name }

-- tables store a valid base, to which a user of the next number may be added
pub record MayAddUser (t : Tables) (uid : ℕ) (name : List ℕ) (b : Contents) : Type 0 where
  pub base : StoresValid t b
  pub next : uid ≡ length b.catalog.users + 1
  pub valid : IsValid (with_user b.catalog name) b.stmts

-- there is such a base
pub record SomeMayAddUser (t : Tables) (uid : ℕ) (name : List ℕ) : Type 0 where
  pub base : Contents
  pub may : MayAddUser t uid name base

-- whichever base it is, the tables store it with the user
abbrev pub AddsUserNamed : Tables → Tables → ℕ → List ℕ → Type 0
AddsUserNamed t u uid name = (b : Contents) → MayAddUser t uid name b → StoresValid u (with_one_user b name)

-- whichever base it is, two writes were made for each of its worlds, and one for the user
abbrev pub WritesUser : Seen → Seen → ℕ → List ℕ → Type 0
WritesUser old new uid name = (b : Contents) → MayAddUser old.kept uid name b → Rises (2 * world_count b.stmts + 1) old.writes new.writes

-- the base with one place more, whose user is gone
abbrev pub with_one_gone : Contents → Contents
with_one_gone b = record b { catalog = with_gone_place b.catalog }

-- tables store a valid base, to which a place of the next number may be added
pub record MayAddGonePlace (t : Tables) (uid : ℕ) (b : Contents) : Type 0 where
  pub base : StoresValid t b
  pub next : uid ≡ length b.catalog.users + 1
  pub valid : IsValid (with_gone_place b.catalog) b.stmts

-- there is such a base
pub record SomeMayAddGonePlace (t : Tables) (uid : ℕ) : Type 0 where
  pub base : Contents
  pub may : MayAddGonePlace t uid base

-- whichever base it is, the tables store it with the place
abbrev pub AddsGonePlace : Tables → Tables → ℕ → Type 0
AddsGonePlace t u uid = (b : Contents) → MayAddGonePlace t uid b → StoresValid u (with_one_gone b)
