-- How many users and relations there are. Tables are told of by whichever base they store.
use Rattle.std.specs.Prelude.{◌≡◌, ℕ, ◌+◌, length}
use Rattle.bdb_base.specs.Bases.{Contents}
use Rattle.bdb_keep.specs.Tables.{Tables}
use Rattle.bdb_tables.specs.Stored.{Stores}

-- the number of the next user of whichever base the tables store
abbrev pub IsNextUser : Tables → ℕ → Type 0
IsNextUser t uid = (b : Contents) → Stores t b → uid ≡ length b.catalog.users + 1

-- the number of the next relation of whichever base the tables store
abbrev pub IsNextRelation : Tables → ℕ → Type 0
IsNextRelation t rel = (b : Contents) → Stores t b → rel ≡ length b.catalog.rels

-- tables store a base
pub record StoreAny (t : Tables) : Type 0 where
  pub base : Contents
  pub stored : Stores t base
