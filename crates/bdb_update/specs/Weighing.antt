-- What a change of statements of one path comes to, told before anything is written. Tables are told of by whichever base they
-- store.
use Rattle.std.specs.Prelude.{◌≡◌, ℕ, ◌+◌, ◌<◌, ◌≤◌, Bool, true, nat_le, nat_lt, List, length, Some, None}
use Rattle.bdb_base.specs.Bases.{Contents, key_lengths, tuple_count}
use Rattle.bdb_base.specs.Limits.{most_tuples}
use Rattle.bdb_base.specs.Worlds.{IsConsistent}
use Rattle.bdb_base.specs.declared.kinds.Stmt.{Stmt}
use Rattle.bdb_canon.specs.declared.sizes.Counts.{Counts}
use Rattle.bdb_keep.specs.Tables.{Tables}
use Rattle.bdb_update.specs.Calls.{MayChange, clash_within, with_others}
use Rattle.bdb_update.specs.Elsewhere.{are_at}
use Rattle.bdb_update.specs.Reached.{lost_of, fresh_of}
use Rattle.bdb_tables.specs.Stored.{Stores}
use Rattle.bdb_update.specs.declared.weighing.Weight.{Weight}
use Rattle.bdb_update.specs.declared.weighing.Weight.TheVariants.{Clashes, Fills, Fits}

-- statements of a path may be changed, of which some go
pub record MayWeigh (t : Tables) (counts : Counts) (w : List ℕ) (gone come : List Stmt) (b : Contents) : Type 0 where
  pub may : MayChange t counts w gone come b
  pub some : 0 < length gone

pub record SomeMayWeigh (t : Tables) (counts : Counts) (w : List ℕ) (gone come : List Stmt) : Type 0 where
  pub base : Contents
  pub may : MayWeigh t counts w gone come base

-- what is told of the base that there would be
abbrev pub IsWeight : List ℕ → Contents → Weight → Type 0
IsWeight w next (Clashes least) = clash_within next w ≡ Some least
IsWeight w next Fills = (clash_within next w ≡ None) × (nat_lt most_tuples (tuple_count next.stmts) ≡ true)
IsWeight w next Fits = (clash_within next w ≡ None) × (tuple_count next.stmts ≤ most_tuples)

abbrev pub Weighs : Tables → Counts → List ℕ → List Stmt → List Stmt → Weight → Type 0
Weighs t counts w gone come weight = (b : Contents) → MayWeigh t counts w gone come b → IsWeight w (with_others b gone come) weight

-- so many tuples, more by the fresh ones and fewer by those lost, are not too many
abbrev pub have_room : ℕ → List Stmt → List Stmt → Bool
have_room tuples lost fresh = nat_le (tuples + tuple_count fresh) (most_tuples + tuple_count lost)

-- whichever base tables store, and at whichever path those that go stand: whether there is room
abbrev pub TellsRoom : Tables → ℕ → List Stmt → List Stmt → List Stmt → Bool → Type 0
TellsRoom t tuples reached gone come room = (b : Contents) → Stores t b → (w : List ℕ) → IsConsistent (key_lengths b.catalog.rels) b.stmts → are_at b.stmts w gone ≡ true
    → room ≡ have_room tuples (lost_of b.stmts w reached gone) (fresh_of b.stmts come)
