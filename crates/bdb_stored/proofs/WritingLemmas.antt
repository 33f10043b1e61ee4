-- Places of users, relations and statements, added one by one.
use Rattle.std.proofs.Common.{◌≡◌, ◌∙◌, ℕ, ◌+◌, ◌<◌, ◌≤◌, List, [], ◌∷◌, ◌++◌, length, take, get_or, Err, refl, ap, sym, subst, arith}
use Rattle.std.proofs.lemmas.List.{length-take-le, take_all, take_more}
use Rattle.bdb_base.specs.Bases.{Contents, IsCatalog, IsValid, empty_contents}
use Rattle.bdb_base.specs.declared.kinds.Catalog.{Catalog}
use Rattle.bdb_base.specs.declared.kinds.RelDef.{RelDef}
use Rattle.bdb_base.specs.declared.kinds.UserSlot.{UserSlot}
use Rattle.bdb_base.specs.declared.kinds.UserSlot.TheVariants.{Live, Gone}
use Rattle.bdb_canon.specs.declared.sizes.Counts.{Counts}
use Rattle.bdb_catalog.specs.Bases.{StoresValid}
use Rattle.bdb_catalog.specs.Creating.{AddsGonePlace, AddsRelation, AddsUserNamed, MayAddGonePlace, MayAddRelation, MayAddUser, SomeMayAddGonePlace, SomeMayAddUser}
use Rattle.bdb_keep.specs.Seen.{NeverFall, Seen, Steps}
use Rattle.bdb_keep.specs.Tables.{Tables}
use Rattle.bdb_tables.specs.Stored.{Stores}
use Rattle.bdb_tables.specs.declared.tab.TabError.TheVariants.{Fault, Memory}
use Rattle.bdb_update.specs.Calls.{HasFailed, HasStopped, StoresSized, with_stmts}
use Rattle.bdb_stored.specs.Writing.{AddsPlace, MayAddPlace, SomeMayAddPlace, base_of, with_front, with_relations, with_users}
use Rattle.bdb_stored.proofs.FrontLemmas.{catalog_front, plain_is_valid}

-- ---- one place, that of a user or of one who is gone

user_may : (t : Tables) (uid : ℕ) (name : List ℕ) (b : Contents) → MayAddPlace t uid (Live name) b → MayAddUser t uid name b
user_may t uid name b h = record { base = h.base; next = h.next; valid = h.valid }

gone_may : (t : Tables) (uid : ℕ) (b : Contents) → MayAddPlace t uid Gone b → MayAddGonePlace t uid b
gone_may t uid b h = record { base = h.base; next = h.next; valid = h.valid }

pub some_user : (t : Tables) (uid : ℕ) (slot : UserSlot) (name : List ℕ) → slot ≡ Live name → SomeMayAddPlace t uid slot → SomeMayAddUser t uid name
some_user t uid slot name e h = record { base = h.base; may = user_may t uid name h.base (subst (λ s. MayAddPlace t uid s h.base) e h.may) }

pub some_gone : (t : Tables) (uid : ℕ) (slot : UserSlot) → slot ≡ Gone → SomeMayAddPlace t uid slot → SomeMayAddGonePlace t uid
some_gone t uid slot e h = record { base = h.base; may = gone_may t uid h.base (subst (λ s. MayAddPlace t uid s h.base) e h.may) }

pub user_added : (t u : Tables) (uid : ℕ) (slot : UserSlot) (name : List ℕ) → slot ≡ Live name → AddsUserNamed t u uid name → AddsPlace t u uid slot
user_added t u uid slot name e added = subst (AddsPlace t u uid) (sym e) (λ b h. added b (user_may t uid name b h))

pub gone_added : (t u : Tables) (uid : ℕ) (slot : UserSlot) → slot ≡ Gone → AddsGonePlace t u uid → AddsPlace t u uid slot
gone_added t u uid slot e added = subst (AddsPlace t u uid) (sym e) (λ b h. added b (gone_may t uid b h))

module _ (c : Catalog) (v : IsCatalog c) where
  -- ---- places of users

  users_of : List UserSlot → Contents
  users_of us = base_of us [] []

  users_valid : (k : ℕ) → IsValid (with_users c k).catalog []
  users_valid k = plain_is_valid (with_users c k).catalog (catalog_front c 0 k v)

  pub users_begin : (t : Tables) → Stores t empty_contents → StoresValid t (with_users c 0)
  users_begin t s = record { stored = s; valid = users_valid 0 }

  module _ (k : ℕ) (slot : UserSlot) (l : k < length c.users) (is : slot ≡ get_or c.users k slot) where
    one_place : take k c.users ++ slot ∷ [] ≡ take (k + 1) c.users
    one_place = ap (λ s. take k c.users ++ s ∷ []) is ∙ sym (take_more c.users k slot l)

    pub place_may : (t : Tables) (uid : ℕ) → uid ≡ k + 1 → StoresValid t (with_users c k) → MayAddPlace t uid slot (with_users c k)
    unfolding users_of
    place_may t uid e s = record {
      base = s;
      next = (let n = length-take-le k c.users (omega arith) in omega arith);
      valid = subst (λ us. IsValid (users_of us).catalog []) (sym one_place) (users_valid (k + 1));
    }

    pub place_added : (t u : Tables) (uid : ℕ) → uid ≡ k + 1 → StoresValid t (with_users c k) → AddsPlace t u uid slot → StoresValid u (with_users c (k + 1))
    unfolding users_of
    place_added t u uid e s added = subst (λ us. StoresValid u (users_of us)) one_place (added (with_users c k) (place_may t uid e s))

  pub users_end : (t : Tables) (k : ℕ) → length c.users ≤ k → StoresValid t (with_users c k) → StoresValid t (base_of c.users [] [])
  unfolding users_of
  users_end t k l s = subst (λ us. StoresValid t (users_of us)) (take_all k c.users l) s

  -- ---- relations

  rels_of : List RelDef → Contents
  rels_of rels = base_of c.users rels []

  relations_valid : (k : ℕ) → IsValid (with_relations c k).catalog []
  relations_valid k = plain_is_valid (with_relations c k).catalog (subst (λ us. IsCatalog (record { rels = take k c.rels; users = us })) (take_all (length c.users) c.users (omega arith)) (catalog_front c k (length c.users) v))

  module _ (k : ℕ) (def : RelDef) (l : k < length c.rels) (is : def ≡ get_or c.rels k def) where
    one_relation : take k c.rels ++ def ∷ [] ≡ take (k + 1) c.rels
    one_relation = ap (λ n. take k c.rels ++ n ∷ []) is ∙ sym (take_more c.rels k def l)

    pub relation_may : (t : Tables) (rel : ℕ) → rel ≡ k → StoresValid t (with_relations c k) → MayAddRelation t rel def (with_relations c k)
    unfolding rels_of
    relation_may t rel e s = record {
      base = s;
      next = (let n = length-take-le k c.rels (omega arith) in omega arith);
      valid = subst (λ rs. IsValid (rels_of rs).catalog []) (sym one_relation) (relations_valid (k + 1));
    }

    pub relation_added : (t u : Tables) (rel : ℕ) → rel ≡ k → StoresValid t (with_relations c k) → AddsRelation t u rel def → StoresValid u (with_relations c (k + 1))
    unfolding rels_of
    relation_added t u rel e s added = subst (λ rs. StoresValid u (rels_of rs)) one_relation (added (with_relations c k) (relation_may t rel e s))

  pub relations_end : (t : Tables) (k : ℕ) → length c.rels ≤ k → StoresValid t (with_relations c k) → StoresValid t (base_of c.users c.rels [])
  unfolding rels_of
  relations_end t k l s = subst (λ rs. StoresValid t (rels_of rs)) (take_all k c.rels l) s

-- ---- statements

pub statements_begin : (t : Tables) (b : Contents) → StoresValid t (base_of b.catalog.users b.catalog.rels []) → StoresSized t (record { worlds = 1; tuples = 0; stmts = 0; rows = 0 }) (with_front b 0)
statements_begin t b s = record { stored = s.stored; valid = s.valid; counted = refl }

pub statements_end : (t : Tables) (b : Contents) (counts : Counts) (k : ℕ) → length b.stmts ≤ k → StoresSized t counts (with_front b k) → StoresValid t b
statements_end t b counts k l s = subst (λ xs. StoresValid t (with_stmts b xs)) (take_all k b.stmts l) (record { stored = s.stored; valid = s.valid })

-- ---- how one statement ends

module _ (old new : Seen) (before after : Counts) (falls : NeverFall old new) where
  pub steps_failed : {T : Type 0} → HasFailed old new before after → Steps {T = T} old new (Err Fault) Fault
  steps_failed f = record { cause = record { later = falls.faults; rose = λ e. f.rose }; ok = tt; err = f.stopped.dropped }

  pub steps_stopped : {T : Type 0} → HasStopped old new before after → Steps {T = T} old new (Err Memory) Fault
  steps_stopped s = record { cause = record { later = falls.faults; rose = λ e. absurd cc }; ok = tt; err = s.dropped }
