-- The row of one who is gone in place of a user's, and no edge for him at any world.
use Rattle.std.proofs.Common.{◌≡◌, ◌∙◌, ℕ, ◌≤◌, Bool, nat_eq, length, refl, sym, subst, Option, Some}
use Rattle.std.specs.FinMap as tables
use Rattle.bdb_base.specs.Bases.{Contents, is_user, without_user, world_count}
use Rattle.bdb_base.specs.Causes.{RoseBy}
use Rattle.bdb_base.specs.declared.kinds.UserSlot.{UserSlot}
use Rattle.bdb_base.specs.declared.kinds.UserSlot.TheVariants.{Gone}
use Rattle.bdb_base.proofs.UserLemmas.{others_are_users}
use Rattle.bdb_base.proofs.CauseLemmas.{rises_twice_and_once}
use Rattle.bdb_keep.specs.Seen.{Seen}
use Rattle.bdb_keep.specs.Tables.{Tables}
use Rattle.bdb_tables.specs.Codec.{place}
use Rattle.bdb_tables.specs.Grammar.{InGrammar}
use Rattle.bdb_tables.specs.InUse.{user_codec}
use Rattle.bdb_tables.specs.States.{HoldsStates}
use Rattle.bdb_tables.specs.Stored.{SameBut}
use Rattle.bdb_tables.proofs.SameLemmas.{change_same, states_still}
use Rattle.bdb_tables.proofs.ListLemmas.{listed_is_named}
use Rattle.bdb_worlds.specs.Growth.{SameOutside}
use Rattle.bdb_worlds.specs.Holding.{Worlds}
use Rattle.bdb_worlds.specs.UserEdges.{DropsUser, MayLeave, WritesDropped, without_one_user}
use Rattle.bdb_update.specs.Keeping.{SameNumbers}
use Rattle.bdb_update.specs.StoredLaws.{is_edges}
use Rattle.bdb_update.proofs.CountLemmas.{numbers_are_counted}
use Rattle.bdb_update.proofs.GrammarLemmas.{stored_is_in_grammar}
use Rattle.bdb_update.proofs.StayLemmas.{same_by_user}
use Rattle.bdb_update.proofs.StoreLemmas.{edges_alone, edges_store_without_user, states_as}
use Rattle.bdb_catalog.specs.Place.{LosesUser, MayLoseUser, SomeMayLoseUser, WritesEmptied}

pub place_grammar : (t : Tables) (uid : ℕ) → SomeMayLoseUser t uid → InGrammar t
place_grammar t uid h = stored_is_in_grammar t h.base h.may.stored

module _ (t m : Tables) (uid : ℕ) (put : m ≡ tables.insert t (place user_codec uid) (user_codec.row_bytes Gone)) where
  abbrev one : ℕ × Option UserSlot
  one = (uid, Some Gone)

  abbrev is_users : ℕ → Bool
  is_users n = nat_eq n 2

  put_alone : SameBut is_users t m
  put_alone = subst (SameBut is_users t) (sym put) (change_same user_codec is_users t one refl)

  module _ (b : Contents) (h : MayLoseUser t uid b) where
    abbrev worlds : Worlds
    worlds = record { users = is_user b.catalog.users; names = h.stored.names }

    -- the row leaves the states as they were
    before : HoldsStates (is_user b.catalog.users) h.stored.names m
    before = states_still is_users t m put_alone (is_user b.catalog.users) h.stored.names refl refl refl refl refl h.stored.stored.states

    may : MayLeave worlds uid
    may = record { user = h.user; unnamed = λ w e. listed_is_named uid w ∙ h.unnamed w (sym (h.stored.stored.worlds w) ∙ e) }

    module _ (u : Tables) (drops : DropsUser m u uid) where
      after : HoldsStates (is_user (without_user b.catalog uid).users) h.stored.names u
      after =
          states_as (without_one_user (is_user b.catalog.users) uid) (is_user (without_user b.catalog uid).users) h.stored.names u
          (λ i. sym (others_are_users b.catalog uid i h.user)) (drops worlds before may.unnamed)

  pub user_lost : (u : Tables) → DropsUser m u uid → SameOutside 9 10 m u → LosesUser t u uid
  user_lost u drops same b h = record {
    names = h.stored.names;
    tuples = h.stored.tuples;
    stored = edges_store_without_user h.stored.names h.stored.tuples t u b uid h.stored.stored h.user (after b h u drops) (subst (λ z. SameBut is_edges z u) put (edges_alone m u same));
  }

  -- all worlds and tuples keep their numbers
  pub numbers_kept : (u : Tables) → DropsUser m u uid → SameOutside 9 10 m u → SomeMayLoseUser t uid → SameNumbers t u
  numbers_kept u drops same s =
      same_by_user t m u uid (Some Gone) (is_user s.base.catalog.users) (is_user (without_user s.base.catalog uid).users) s.may.stored.names put same s.may.stored.stored.states (after s.base s.may u drops)

-- ---- how often is written

pub place_written : (old mid new : Seen) (uid : ℕ) → mid.kept ≡ tables.insert old.kept (place user_codec uid) (user_codec.row_bytes Gone) → mid.writes ≤ new.writes
    → RoseBy 1 old.writes mid.writes → WritesDropped mid new uid → WritesEmptied old new uid
place_written old mid new uid put le one edges b h =
    rises_twice_and_once (length h.stored.names.used) (world_count b.stmts) old.writes mid.writes new.writes le
    (numbers_are_counted h.stored.names h.stored.stored.states.names b.stmts h.stored.stored.worlds) one
    (edges (worlds old.kept mid.kept uid put b h) (before old.kept mid.kept uid put b h) (may old.kept mid.kept uid put b h))
