-- A user more in the catalog of a stored base.
use Rattle.std.proofs.Common.{◌≡◌, ◌∙◌, ℕ, ◌+◌, ◌≤◌, Bool, true, nat_eq, List, [], ◌∷◌, ◌++◌, length, refl, sym, ap, subst, Option, Some}
use Rattle.std.specs.List.{list_all}
use Rattle.std.specs.FinMap as tables
use Rattle.std.proofs.lemmas.Bool.{and_parts}
use Rattle.std.proofs.lemmas.List.Folds.{list_all-append}
use Rattle.bdb_base.specs.Bases.{Contents, is_plain, is_user, user_names, world_count}
use Rattle.bdb_base.specs.Causes.{RoseBy}
use Rattle.bdb_base.specs.declared.kinds.UserSlot.{UserSlot}
use Rattle.bdb_base.specs.declared.kinds.UserSlot.TheVariants.{Live, Gone}
use Rattle.bdb_base.proofs.BaseLemmas.{names_push}
use Rattle.bdb_base.proofs.UserLemmas.{next_is_no_user, user_or_new}
use Rattle.bdb_base.proofs.CauseLemmas.{rises_twice_and_once}
use Rattle.bdb_keep.specs.Seen.{Seen}
use Rattle.bdb_keep.specs.Tables.{Tables}
use Rattle.bdb_key.specs.Grammar.{IsNum, IsPlain}
use Rattle.bdb_names.specs.Drops.{with_one_user}
use Rattle.bdb_tables.specs.Codec.{place}
use Rattle.bdb_tables.specs.Grammar.{InGrammar}
use Rattle.bdb_tables.specs.InUse.{user_codec}
use Rattle.bdb_tables.specs.States.{HoldsStates}
use Rattle.bdb_tables.specs.Stored.{SameBut, StoredAs}
use Rattle.bdb_tables.specs.Writes.{with_change}
use Rattle.bdb_tables.proofs.SameLemmas.{change_same, states_still}
use Rattle.bdb_update.specs.Keeping.{SameNumbers}
use Rattle.bdb_update.specs.StoredLaws.{is_edges}
use Rattle.bdb_update.proofs.CountLemmas.{numbers_are_counted}
use Rattle.bdb_update.proofs.GrammarLemmas.{stored_is_in_grammar}
use Rattle.bdb_update.proofs.StayLemmas.{same_by_user}
use Rattle.bdb_update.proofs.StoreLemmas.{edges_alone, edges_store_user, gone_place_stored, states_as}
use Rattle.bdb_worlds.specs.Growth.{SameOutside}
use Rattle.bdb_worlds.specs.UserEdges.{AddsUser, WritesEdges}
use Rattle.bdb_catalog.specs.Creating.{MayAddUser, SomeMayAddUser, AddsUserNamed, WritesUser, AddsGonePlace, with_one_gone}

-- ---- a user that may be added

pub name_may_be : (t : Tables) (uid : ℕ) (name : List ℕ) → SomeMayAddUser t uid name → IsPlain name
name_may_be t uid name h =
    let users = h.base.catalog.users in
    let names = user_names users in
    let plain : list_all is_plain (names ++ name ∷ []) ≡ true = ap (list_all is_plain) (sym (names_push users name)) ∙ h.may.valid.catalog.users_plain in
    (and_parts (is_plain name) true (and_parts (list_all is_plain names) (list_all is_plain (name ∷ [])) (sym (list_all-append is_plain names (name ∷ [])) ∙ plain)).1).0

pub user_grammar : (t : Tables) (uid : ℕ) (name : List ℕ) → SomeMayAddUser t uid name → InGrammar t
user_grammar t uid name h = stored_is_in_grammar t h.base h.may.base.stored

-- the row of the user leaves the states as they were
pub states_before : (t m : Tables) (uid : ℕ) (name : List ℕ) → m ≡ tables.insert t (place user_codec uid) (user_codec.row_bytes (Live name))
    → (b : Contents) → (h : MayAddUser t uid name b) → HoldsStates (is_user b.catalog.users) h.base.stored.names m
states_before t m uid name put b h =
    let x : ℕ × Option UserSlot = (uid, Some (Live name)) in
    let v = with_change user_codec t x in
    let two : ℕ → Bool = λ n. nat_eq n 2 in
    let first : SameBut two t v = change_same user_codec two t x refl in
    subst (HoldsStates (is_user b.catalog.users) h.base.stored.names) (sym put)
    (states_still two t v first (is_user b.catalog.users) h.base.stored.names refl refl refl refl refl h.base.stored.stored.states)

pub user_added : (t m u : Tables) (uid : ℕ) (name : List ℕ) → IsNum uid → IsPlain name → m ≡ tables.insert t (place user_codec uid) (user_codec.row_bytes (Live name))
    → AddsUser m u uid → SameOutside 9 10 m u → AddsUserNamed t u uid name
user_added t m u uid name num plain put adds same b h =
    let s = h.base.stored in
    let ns = s.names in
    let users = b.catalog.users in
    let before = states_before t m uid name put b h in
    let after = adds (record { users = is_user users; names = ns }) before (next_is_no_user users uid h.next) in
    let more : (i : ℕ) → with_one_user (is_user users) uid i ≡ is_user (users ++ Live name ∷ []) i = λ i. user_or_new users name uid i h.next in
    record {
      stored = record {
        names = ns;
        tuples = s.tuples;
        stored = edges_store_user ns s.tuples t u b uid name s.stored h.next num plain
            (states_as (with_one_user (is_user users) uid) (is_user (users ++ Live name ∷ [])) ns u more after)
            (subst (λ z. SameBut is_edges z u) put (edges_alone m u same));
      };
      valid = h.valid;
    }

-- worlds and tuples keep their numbers
pub user_keeps : (t m u : Tables) (uid : ℕ) (name : List ℕ) → m ≡ tables.insert t (place user_codec uid) (user_codec.row_bytes (Live name)) → AddsUser m u uid → SameOutside 9 10 m u
    → SomeMayAddUser t uid name → SameNumbers t u
user_keeps t m u uid name put adds same h =
    let s = h.may.base.stored in
    let users = is_user h.base.catalog.users in
    let before = states_before t m uid name put h.base h.may in
    same_by_user t m u uid (Some (Live name)) users (with_one_user users uid) s.names put same s.stored.states
    (adds (record { users = users; names = s.names }) before (next_is_no_user h.base.catalog.users uid h.may.next))

-- ---- how many rows come

pub user_written : (old mid new : Seen) (uid : ℕ) (name : List ℕ) → mid.kept ≡ tables.insert old.kept (place user_codec uid) (user_codec.row_bytes (Live name))
    → mid.writes ≤ new.writes → RoseBy 1 old.writes mid.writes → WritesEdges mid new uid → WritesUser old new uid name
user_written old mid new uid name put le one edges b h =
    let s = h.base.stored in
    let before = states_before old.kept mid.kept uid name put b h in
    rises_twice_and_once (length s.names.used) (world_count b.stmts) old.writes mid.writes new.writes le
    (numbers_are_counted s.names s.stored.states.names b.stmts s.stored.worlds) one
    (edges (record { users = is_user b.catalog.users; names = s.names }) before (next_is_no_user b.catalog.users uid h.next))

-- ---- a place whose user is gone

pub gone_added : (t u : Tables) (uid : ℕ) → IsNum uid → u ≡ tables.insert t (place user_codec uid) (user_codec.row_bytes Gone) → AddsGonePlace t u uid
gone_added t u uid num put b h =
    let s = h.base.stored in
    record {
      stored = record {
        names = s.names;
        tuples = s.tuples;
        stored = subst (λ z. StoredAs s.names s.tuples z (with_one_gone b)) (sym put) (gone_place_stored s.names s.tuples t b uid s.stored h.next num);
      };
      valid = h.valid;
    }
