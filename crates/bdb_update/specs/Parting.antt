-- How a statement leaves a base: its row goes and its group is settled, the worlds go that are no states any more, and its
-- tuple's number goes where no statement has the tuple. Tables are told of by whichever base they store.
use Rattle.std.specs.Prelude.{◌≡◌, ℕ, ◌+◌, ◌-◌, ◌^◌, ◌<◌, Bool, true, not, List, [], ◌∷◌, Option, None}
use Rattle.bdb_base.specs.Bases.{Contents, IsValid, belongs, stands, without_statement, world_count}
use Rattle.bdb_base.specs.declared.kinds.Stmt.{Stmt}
use Rattle.bdb_base.specs.declared.kinds.Value.{Value}
use Rattle.bdb_keep.specs.Tables.{Tables}
use Rattle.bdb_tables.specs.InUse.{ValKey, val_codec}
use Rattle.bdb_tables.specs.Marks.{Mark}
use Rattle.bdb_tables.specs.Names.{Names}
use Rattle.bdb_tables.specs.Rows.{Tuples}
use Rattle.bdb_tables.specs.Writes.{Gives, with_change}
use Rattle.bdb_val.specs.WorldCopies.{rows_cleared}
use Rattle.bdb_update.specs.Calls.{without_one}
use Rattle.bdb_update.specs.Differing.{has_told}
use Rattle.bdb_update.specs.Joining.{key_made}
use Rattle.bdb_tables.specs.Stored.{StoredOver, Stores}
use Rattle.bdb_update.specs.Tallies.{Balances, HasRowCount}

-- a statement stands in a valid base, to whose catalog it belongs
pub record MayPart (b : Contents) (x : Stmt) : Type 0 where
  pub valid : IsValid b.catalog b.stmts
  pub belongs : belongs b.catalog x ≡ true
  pub there : stands b.stmts x ≡ true

-- tables store a base that a statement may leave
pub record SomeMayPart (t : Tables) (x : Stmt) : Type 0 where
  pub base : Contents
  pub stored : Stores t base
  pub may : MayPart base x

-- ---- its row goes, and its group is settled

-- tables without the row of a statement in a world, by the numbers of the world and of the tuple and the tuple's key
abbrev pub row_taken : Tables → Stmt → ℕ → ℕ → List Value → Tables
row_taken t x wid tid key = with_change val_codec t (key_made x wid tid key, None)

-- tables store a base without a statement, over the worlds and tuples that there were with it
pub record HasParted (t : Tables) (b : Contents) (x : Stmt) : Type 0 where
  pub names : Names
  pub tuples : Tuples
  pub stored : StoredOver b.stmts b.stmts names tuples t (without_one b x)

-- some base that a statement may leave
pub record SomeHasParted (t : Tables) (x : Stmt) : Type 0 where
  pub base : Contents
  pub parted : HasParted t base x
  pub may : MayPart base x

abbrev pub Parts : Tables → Tables → Stmt → Type 0
Parts t u x = (b : Contents) → Stores t b → MayPart b x → HasParted u b x

-- so many rows came, and so many went besides the statement's own
abbrev pub PartsRows : Tables → Tables → Stmt → ℕ → ℕ → Type 0
PartsRows t u x came went = (b : Contents) → Stores t b → MayPart b x → (n m : ℕ) → HasRowCount t n → HasRowCount u m → n < 2 ^ 64 - 1 → m < 2 ^ 64 - 1 → Balances n m came (went + 1)

-- ---- its worlds go

-- the rows of all worlds, where some have none
abbrev pub all_cleared : (ValKey → Option Mark) → List ℕ → ValKey → Option Mark
all_cleared f [] = f
all_cleared f (n ∷ ns) = all_cleared (rows_cleared f n) ns

-- whichever rows tables have, some worlds have lost theirs
abbrev pub ClearsWorlds : Tables → Tables → List ℕ → Type 0
ClearsWorlds t u wids = (f : ValKey → Option Mark) → Gives val_codec t f → Gives val_codec u (all_cleared f wids)

-- tables have so many rows less than before
pub record HasRowsLess (u : Tables) (before gone : ℕ) : Type 0 where
  pub left : ℕ
  pub rows : HasRowCount u left
  pub balance : before ≡ left + gone

-- whichever rows tables have, so many have gone
abbrev pub LosesRows : Tables → Tables → ℕ → Type 0
LosesRows t u gone = (f : ValKey → Option Mark) → Gives val_codec t f → (n : ℕ) → HasRowCount t n → n < 2 ^ 64 - 1 → HasRowsLess u n gone

-- and over the worlds that there are without the statement
pub record HasFewerWorlds (t : Tables) (b : Contents) (x : Stmt) : Type 0 where
  pub names : Names
  pub tuples : Tuples
  pub stored : StoredOver (without_statement b.stmts x) b.stmts names tuples t (without_one b x)

-- some base that a statement may leave
pub record SomeHasFewerWorlds (t : Tables) (x : Stmt) : Type 0 where
  pub base : Contents
  pub worlds : HasFewerWorlds t base x
  pub may : MayPart base x

abbrev pub LosesWorlds : Tables → Tables → Stmt → Type 0
LosesWorlds t u x = (b : Contents) → HasParted t b x → MayPart b x → HasFewerWorlds u b x

-- without the statement there are so many worlds less
abbrev pub CountsWorlds : Tables → Stmt → ℕ → Type 0
CountsWorlds t x gone = (b : Contents) → HasParted t b x → MayPart b x → world_count b.stmts ≡ world_count (without_statement b.stmts x) + gone

-- ---- its tuple's number goes

abbrev pub LosesNumber : Tables → Tables → Stmt → Type 0
LosesNumber t u x = (b : Contents) → HasFewerWorlds t b x → MayPart b x → Stores u (without_one b x)

-- whether no other statement has the tuple
abbrev pub TellsNumber : Tables → Stmt → Bool → Type 0
TellsNumber t x went = (b : Contents) → HasFewerWorlds t b x → MayPart b x → went ≡ not (has_told (without_statement b.stmts x) x.tuple)

-- ---- all of it

abbrev pub PartsWith : Tables → Tables → Stmt → Type 0
PartsWith t u x = (b : Contents) → Stores t b → MayPart b x → Stores u (without_one b x)
