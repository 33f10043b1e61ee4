-- How a statement joins a base: its worlds come, its tuple gets a number, and its row is put and its group settled. Tables are
-- told of by whichever base they store.
use Rattle.std.specs.Prelude.{◌≡◌, ℕ, ◌+◌, ◌^◌, ◌<◌, ◌≤◌, Bool, true, false, ◌||◌, nat_eq, List, [], ◌∷◌, Option, Some, None}
use Rattle.std.specs.List.{list_all}
use Rattle.bdb_base.specs.Bases.{Contents, IsValid, belongs, with_statement, world_count}
use Rattle.bdb_base.specs.declared.kinds.Stmt.{Stmt}
use Rattle.bdb_base.specs.declared.kinds.Value.{Value}
use Rattle.bdb_keep.specs.Tables.{Tables}
use Rattle.bdb_tables.specs.InUse.{ValKey, val_codec}
use Rattle.bdb_tables.specs.Writes.{with_change}
use Rattle.bdb_tables.specs.Names.{Names, number_of, is_named}
use Rattle.bdb_tables.specs.Rows.{Tuples}
use Rattle.bdb_tables.specs.States.{HoldsStates}
use Rattle.bdb_worlds.specs.Holding.{Worlds}
use Rattle.bdb_canon.specs.Sizes.{counts_of}
use Rattle.bdb_update.specs.Calls.{with_one}
use Rattle.bdb_update.specs.Tallies.{HasRowCount}
use Rattle.bdb_tables.specs.Stored.{StoredOver, Stores}

-- a statement belongs to the catalog of a valid base, which is valid with it too
pub record MayJoin (b : Contents) (x : Stmt) : Type 0 where
  pub valid : IsValid b.catalog b.stmts
  pub belongs : belongs b.catalog x ≡ true
  pub next : IsValid b.catalog (with_statement b.stmts x)

-- tables store a base that a statement may join, with so many worlds
pub record SomeMayJoin (t : Tables) (x : Stmt) (worlds : ℕ) : Type 0 where
  pub base : Contents
  pub stored : Stores t base
  pub may : MayJoin base x
  pub counted : worlds ≡ world_count base.stmts

-- ---- its worlds come

-- tables store a base over the worlds that there are with a statement
pub record HasWorlds (t : Tables) (b : Contents) (x : Stmt) : Type 0 where
  pub names : Names
  pub tuples : Tuples
  pub stored : StoredOver (with_statement b.stmts x) b.stmts names tuples t b

-- some base that a statement may join
pub record SomeHasWorlds (t : Tables) (x : Stmt) : Type 0 where
  pub base : Contents
  pub worlds : HasWorlds t base x
  pub may : MayJoin base x

-- whichever states tables hold, the number stands for a path
abbrev pub IsWorld : Tables → List ℕ → ℕ → Type 0
IsWorld t w wid = (s : Worlds) → HoldsStates s.users s.names t → list_all s.users w ≡ true → number_of s.names w ≡ Some wid

-- the same, where the path is a state
abbrev pub IsWorldIfAny : Tables → List ℕ → ℕ → Type 0
IsWorldIfAny t w wid = (s : Worlds) → HoldsStates s.users s.names t → list_all s.users w ≡ true → is_named s.names w ≡ true → number_of s.names w ≡ Some wid

-- the number of a path where it is a state, and none where it is none
abbrev pub IsWorldFound : Tables → List ℕ → Option ℕ → Type 0
IsWorldFound t w (Some wid) = IsWorld t w wid
IsWorldFound t w None = (s : Worlds) → HoldsStates s.users s.names t → list_all s.users w ≡ true → is_named s.names w ≡ false

-- the last of some numbers, if there is one
abbrev pub last_or : ℕ → List ℕ → ℕ
last_or n [] = n
last_or n (m ∷ ms) = last_or m ms

-- the worlds of a statement have come, its path's with this number
pub record HaveArrived (u : Tables) (b : Contents) (x : Stmt) (wid : ℕ) : Type 0 where
  pub worlds : HasWorlds u b x
  pub here : IsWorld u x.path wid

abbrev pub Arrive : Tables → Tables → Stmt → ℕ → Type 0
Arrive t u x wid = (b : Contents) → Stores t b → MayJoin b x → HaveArrived u b x wid

-- so many rows came with them
abbrev pub CountsArrived : Tables → Tables → Stmt → ℕ → Type 0
CountsArrived t u x n = (b : Contents) → Stores t b → MayJoin b x → (a z : ℕ) → HasRowCount t a → HasRowCount u z → z ≡ a + n

-- ---- its tuple gets a number

-- a table is one of the two of tuples
abbrev pub is_of_tuples : ℕ → Bool
is_of_tuples n = nat_eq n 4 || nat_eq n 5

-- and over the tuples that there are with the statement
pub record HasNumber (t : Tables) (b : Contents) (x : Stmt) : Type 0 where
  pub names : Names
  pub tuples : Tuples
  pub stored : StoredOver (with_statement b.stmts x) (with_statement b.stmts x) names tuples t b

-- some base that a statement may join
pub record SomeHasNumber (t : Tables) (x : Stmt) : Type 0 where
  pub base : Contents
  pub number : HasNumber t base x
  pub may : MayJoin base x

abbrev pub Numbers : Tables → Tables → Stmt → Type 0
Numbers t u x = (b : Contents) → HasWorlds t b x → MayJoin b x → HasNumber u b x

-- ---- its row is put, and its group settled

-- the key of a statement's row in a world, by the numbers of the world and of the tuple and the tuple's key
abbrev pub key_made : Stmt → ℕ → ℕ → List Value → ValKey
key_made x wid tid key = (wid, x.tuple.rel, key, tid)

-- tables with the row
abbrev pub row_put : Tables → Stmt → ℕ → ℕ → List Value → Tables
row_put t x wid tid key = with_change val_codec t (key_made x wid tid key, Some (x.sign, true))

abbrev pub Settles : Tables → Tables → Stmt → Type 0
Settles t u x = (b : Contents) → HasNumber t b x → MayJoin b x → Stores u (with_one b x)

-- the rows before with those that came are those afterwards with those that went, and all that came but one are there
pub record HasBalance (before after came went : ℕ) : Type 0 where
  pub balance : before + came ≡ after + went
  pub few : came ≤ after + 1

-- so many rows came as the group was settled, and so many went
abbrev pub CountsSettled : Tables → Tables → Stmt → ℕ → ℕ → Type 0
CountsSettled t u x put taken = (b : Contents) → HasNumber t b x → MayJoin b x → (a z : ℕ) → HasRowCount t a → HasRowCount u z → HasBalance a z put taken

-- ---- all of it

abbrev pub Joins : Tables → Tables → Stmt → Type 0
Joins t u x = (b : Contents) → Stores t b → MayJoin b x → Stores u (with_one b x)

-- so many rows came in all, and so many went
pub record IsMoved (b : Contents) (x : Stmt) (came went : ℕ) : Type 0 where
  pub balance : (counts_of b).rows + came ≡ (counts_of (with_one b x)).rows + went
  pub few : (counts_of b).rows + came < 2 ^ 32

abbrev pub CountsJoined : Tables → Stmt → ℕ → ℕ → Type 0
CountsJoined t x came went = (b : Contents) → Stores t b → MayJoin b x → IsMoved b x came went
