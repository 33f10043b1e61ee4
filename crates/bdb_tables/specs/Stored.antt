-- When tables store a base with its worlds: they have the tuples by number, the worlds with their links and edges, and each
-- row that a world has. A statement is a row of its path's world that is marked explicit.
use Rattle.std.specs.Prelude.{◌≡◌, ℕ, suc, Bool, false, ◌&&◌, nat_le, List, ◌∷◌, Option, Some, None}
use Prim.Native.Nat.{zero}
use Rattle.std.specs.List.{slice_get}
use Rattle.std.specs.FinMap as tables
use Rattle.bdb_base.specs.Bases.{Contents, is_user, key_lengths}
use Rattle.bdb_base.specs.States.{is_state}
use Rattle.bdb_base.specs.declared.kinds.Stmt.{Stmt}
use Rattle.bdb_base.specs.declared.kinds.UserSlot.{UserSlot}
use Rattle.bdb_keep.specs.Tables.{Tables}
use Rattle.bdb_tables.specs.InUse.{meta_codec, user_codec, rel_codec, plain_codec}
use Rattle.bdb_tables.specs.Names.{Names, path_of, is_named}
use Rattle.bdb_tables.specs.Rows.{Tuples, HoldsTuples, HoldsRows}
use Rattle.bdb_tables.specs.States.{HoldsStates}
use Rattle.bdb_tables.specs.Writes.{Gives}

-- the same rows are in all tables but those whose numbers pass a test
abbrev pub SameBut : (ℕ → Bool) → Tables → Tables → Type 0
SameBut test t u = (n : ℕ) (k : List ℕ) → test n ≡ false → tables.get u (n ∷ k) ≡ tables.get t (n ∷ k)

-- a number is that of one of the twelve tables
abbrev pub is_table : ℕ → Bool
is_table n = nat_le 1 n && nat_le n 12

-- the place of the user of a number: users are numbered from 1
abbrev pub slot_of : List UserSlot → ℕ → Option UserSlot
slot_of users zero = None
slot_of users (suc n) = slice_get users n

-- Tables store a base over worlds and tuples that have these numbers: the one row of the format is 3, users and relations
-- are those of the catalog by number, the worlds are the states of the statements `reached`, the tuples are those of the
-- statements `told`, the rows of each world are those that the base's statements make, and no other table has a row. In the
-- middle of a change there may be worlds and tuples of other statements than the base's.
pub record StoredOver (reached told : List Stmt) (ns : Names) (ts : Tuples) (t : Tables) (b : Contents) : Type 0 where
  pub format : Gives meta_codec t (λ _. Some 3)
  pub users : Gives user_codec t (slot_of b.catalog.users)
  pub rels : Gives rel_codec t (slice_get b.catalog.rels)
  pub tuples : HoldsTuples told ts t
  pub states : HoldsStates (is_user b.catalog.users) ns t
  pub worlds : (w : List ℕ) → is_named ns w ≡ is_state reached w
  pub rows : HoldsRows (key_lengths b.catalog.rels) b.stmts (path_of ns) ts.tuple t
  pub plain : Gives plain_codec t (λ _. None)
  pub outside : (n : ℕ) (k : List ℕ) → is_table n ≡ false → tables.get t (n ∷ k) ≡ None

-- tables store a base, whose worlds and tuples have these numbers
abbrev pub StoredAs : Names → Tuples → Tables → Contents → Type 0
StoredAs ns ts t b = StoredOver b.stmts b.stmts ns ts t b

-- tables store a base, under some numbers of its worlds and of its tuples
pub record Stores (t : Tables) (b : Contents) : Type 0 where
  pub names : Names
  pub tuples : Tuples
  pub stored : StoredAs names tuples t b
