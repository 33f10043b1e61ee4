-- What is read of tables on the way down a path, from one state among its ends to the next.
use Rattle.std.specs.Prelude.{◌≡◌, ℕ, ◌+◌, ◌≤◌, ◌*◌, true, List, ◌∷◌, length, map, sum_by, Some}
use Rattle.bdb_base.specs.Bases.{Contents, fits_relation, key_lengths}
use Rattle.bdb_base.specs.Order.{statement_cmp}
use Rattle.bdb_base.specs.SortedSet.{put_all}
use Rattle.bdb_base.specs.States.{is_state}
use Rattle.bdb_base.specs.declared.kinds.Sign.TheVariants.{Plus, Minus}
use Rattle.bdb_base.specs.declared.kinds.Stmt.{Stmt}
use Rattle.bdb_base.specs.declared.tuple.Tuple.{Tuple}
use Rattle.bdb_base.specs.SameLemmas.{statement_of}
use Rattle.bdb_keep.specs.Seen.{Seen}
use Rattle.bdb_keep.specs.Tables.{Tables}
use Rattle.bdb_tables.specs.Names.{path_of}
use Rattle.bdb_tables.specs.States.{HoldsStates}
use Rattle.bdb_worlds.specs.Bounds.{EndsWithin}
use Rattle.bdb_worlds.specs.Holding.{IsDeepest, Worlds}
use Rattle.bdb_catalog.specs.Bases.{StoresValid}
use Rattle.bdb_why.specs.Ends.{ends_in, near_at}
use Rattle.bdb_why.specs.Stored.{MayAsk, reads_at, rows_of_key}

-- tables hold some states, for one of which a number stands
pub record SomeHaveState (t : Tables) (wid : ℕ) : Type 0 where
  pub worlds : Worlds
  pub states : HoldsStates worlds.users worlds.names t
  pub path : List ℕ
  pub named : path_of worlds.names wid ≡ Some path

-- tables hold some states, for one of which but the root a number stands
pub record SomeHaveLink (t : Tables) (wid : ℕ) : Type 0 where
  pub worlds : Worlds
  pub states : HoldsStates worlds.users worlds.names t
  pub user : ℕ
  pub rest : List ℕ
  pub named : path_of worlds.names wid ≡ Some (user ∷ rest)

-- whichever states the tables hold, the number stands for a path of so many users
abbrev pub StandsForDepth : Tables → ℕ → ℕ → Type 0
StandsForDepth t wid depth = (s : Worlds) → HoldsStates s.users s.names t → (w : List ℕ) → path_of s.names wid ≡ Some w → depth ≡ length w

-- whichever states the tables hold, the suffix link of the number's path leads to this world
abbrev pub LinksTo : Tables → ℕ → ℕ × ℕ → Type 0
LinksTo t wid at = (s : Worlds) → HoldsStates s.users s.names t → (i : ℕ) (w : List ℕ) → path_of s.names wid ≡ Some (i ∷ w) → IsDeepest s w at

-- Whichever valid base the tables store, of which a relation fits the tuple: where the number stands for a path in it, its
-- statements at this very path with the tuple's relation and key were put into a set.
abbrev pub PutsNear : Tables → ℕ → List ℕ → Tuple → List Stmt → List Stmt → Type 0
PutsNear t wid w u xs ys = (b : Contents) (h : StoresValid t b) → fits_relation b.catalog.rels u ≡ true → path_of h.stored.names wid ≡ Some w
    → ys ≡ put_all statement_cmp xs (near_at (key_lengths b.catalog.rels) b.stmts u w)

-- then the count of reads rises by four for each row of the key in its world, and two, at most
abbrev pub ReadsHere : Tables → ℕ → List ℕ → Tuple → ℕ → ℕ → Type 0
ReadsHere t wid w u before now = (b : Contents) (h : StoresValid t b) → fits_relation b.catalog.rels u ≡ true → path_of h.stored.names wid ≡ Some w
    → now ≤ before + (4 * length (rows_of_key (key_lengths b.catalog.rels) b.stmts u w) + 2)

-- Whichever base it is: also counted from one read before, there is one read for each user of the path, and those at each
-- state among the path's ends, at most.
abbrev pub ReadsAfterOne : Seen → Seen → List ℕ → Tuple → Type 0
ReadsAfterOne old new path u = (b : Contents) → MayAsk old.kept path u b → (before : ℕ) → old.reads ≤ before + 1
    → EndsWithin (length path + sum_by (reads_at (key_lengths b.catalog.rels) b.stmts u) (ends_in (is_state b.stmts) path)) before new.reads

-- a set with statements at a path put in, those of some tuples with plus, and those of others with minus
abbrev pub with_both : List ℕ → List Stmt → List Tuple → List Tuple → List Stmt
with_both w xs said denied = put_all statement_cmp (put_all statement_cmp xs (map (statement_of w Plus) said)) (map (statement_of w Minus) denied)
