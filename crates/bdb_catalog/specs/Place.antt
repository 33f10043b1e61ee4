-- The place of a user whom no statement names is emptied. Tables are told of by whichever base they store.
use Rattle.std.specs.Prelude.{◌≡◌, ℕ, ◌+◌, ◌*◌, true, false, List}
use Rattle.bdb_base.specs.Bases.{Contents, is_user, without_user, world_count}
use Rattle.bdb_base.specs.Causes.{Rises}
use Rattle.bdb_base.specs.Changes.{names_user}
use Rattle.bdb_base.specs.States.{is_state}
use Rattle.bdb_keep.specs.Seen.{Seen}
use Rattle.bdb_keep.specs.Tables.{Tables}
use Rattle.bdb_tables.specs.Stored.{Stores}

-- tables store a base, of which a number is that of a user, and no state names him
pub record MayLoseUser (t : Tables) (uid : ℕ) (b : Contents) : Type 0 where
  pub stored : Stores t b
  pub user : is_user b.catalog.users uid ≡ true
  pub unnamed : (w : List ℕ) → is_state b.stmts w ≡ true → names_user uid w ≡ false

-- there is such a base
pub record SomeMayLoseUser (t : Tables) (uid : ℕ) : Type 0 where
  pub base : Contents
  pub may : MayLoseUser t uid base

-- whichever base the tables stored, they store it without the user
abbrev pub LosesUser : Tables → Tables → ℕ → Type 0
LosesUser t u uid = (b : Contents) → MayLoseUser t uid b → Stores u (record b { catalog = without_user b.catalog uid })

-- whichever base the tables stored, two writes were made for each of its worlds, and one
abbrev pub WritesEmptied : Seen → Seen → ℕ → Type 0
WritesEmptied old new uid = (b : Contents) → MayLoseUser old.kept uid b → Rises (2 * world_count b.stmts + 1) old.writes new.writes
