-- What calls say of the valid base that tables store, whichever it is.
use Rattle.std.specs.Prelude.{◌≡◌, ℕ, true, List}
use Rattle.std.specs.List.{list_all}
use Rattle.bdb_base.specs.Bases.{Contents, IsValid, is_user}
use Rattle.bdb_keep.specs.Tables.{Tables}
use Rattle.bdb_tables.specs.Stored.{Stores}

-- tables store a valid base
pub record StoresValid (t : Tables) (b : Contents) : Type 0 where
  pub stored : Stores t b
  pub valid : IsValid b.catalog b.stmts

-- there is such a base
pub record StoresSome (t : Tables) : Type 0 where
  pub base : Contents
  pub stores : StoresValid t base

-- tables store a valid base, among whose users are those of a path
pub record HasUsers (t : Tables) (path : List ℕ) (b : Contents) : Type 0 where
  pub base : StoresValid t b
  pub own : list_all (is_user b.catalog.users) path ≡ true

-- there is such a base
pub record SomeHasUsers (t : Tables) (path : List ℕ) : Type 0 where
  pub base : Contents
  pub has : HasUsers t path base
