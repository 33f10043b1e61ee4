-- The row of one user changes, and the edges for him: his place goes, he comes back to it, or he leaves it.
use Rattle.std.proofs.Common.{◌≡◌, ◌∙◌, ℕ, zero, suc, ◌+◌, ◌-◌, ◌*◌, ◌≤◌, Bool, true, false, not, ◌&&◌, ◌||◌, nat_eq, cond, List, [], ◌∷◌, ◌++◌, length, slice_set, refl, sym, ap, subst, inl, inr, arith, Option, Some, None}
use Rattle.std.specs.List.{slice_get}
use Rattle.std.specs.Ordering.{is_eq, nat_cmp}
use Rattle.std.specs.FinMap as tables
use Rattle.std.proofs.lemmas.Bool.{cases_Bool, cond-false, cond-true, eq-eqb, eqb-true, false≢true}
use Rattle.std.proofs.lemmas.List.{length-set, length_push}
use Rattle.std.proofs.lemmas.Option.{slice_get_past}
use Rattle.bdb_base.specs.Bases.{Contents, IsValid, belongs, is_user, without_user, world_count}
use Rattle.bdb_base.specs.Causes.{Rises, RoseBy}
use Rattle.bdb_base.specs.Changes.{names_user, without_statements_of}
use Rattle.bdb_base.specs.States.{is_state}
use Rattle.bdb_base.specs.declared.kinds.Catalog.{Catalog}
use Rattle.bdb_base.specs.declared.kinds.Stmt.{Stmt}
use Rattle.bdb_base.specs.declared.kinds.UserSlot.{UserSlot}
use Rattle.bdb_base.specs.declared.kinds.UserSlot.TheVariants.{Live, Gone}
use Rattle.bdb_base.specs.OrderLemmas.{is_eq_nat_cmp}
use Rattle.bdb_base.proofs.BaseLemmas.{belongs_parts}
use Rattle.bdb_base.proofs.ListLemmas.{filter_all, list_all_weaker}
use Rattle.bdb_base.proofs.UserLemmas.{comes_back, name_found, named_at, next_is_no_user, others_are_users, plain_at, states_name_others, user_above, user_or_new, user_within, who_is_gone_is_no_user, who_leaves_is_gone}
use Rattle.bdb_base.proofs.CauseLemmas.{rises_twice_and_once}
use Rattle.bdb_keep.specs.Seen.{Seen}
use Rattle.bdb_keep.specs.Tables.{Tables}
use Rattle.bdb_key.specs.Grammar.{IsNum, IsPlain}
use Rattle.bdb_names.specs.Drops.{with_one_user}
use Rattle.bdb_tables.specs.Codec.{place}
use Rattle.bdb_tables.specs.Grammar.{InGrammar}
use Rattle.bdb_tables.specs.InUse.{meta_codec, user_codec, rel_codec, val_codec, plain_codec}
use Rattle.bdb_tables.specs.InUseLaws.{numbers_in_order}
use Rattle.bdb_tables.specs.Names.{Names}
use Rattle.bdb_tables.specs.Rows.{Tuples}
use Rattle.bdb_tables.specs.States.{HoldsStates}
use Rattle.bdb_tables.specs.Stored.{SameBut, StoredAs, slot_of}
use Rattle.bdb_tables.specs.Writes.{Gives, with_change, with_row_at}
use Rattle.bdb_tables.proofs.CatalogLemmas.{user_set}
use Rattle.bdb_tables.proofs.SameLemmas.{change_same, gives_still, outside_one, states_still, tuples_still}
use Rattle.bdb_tables.proofs.WriteLemmas.{change_gives, gives_same}
use Rattle.bdb_tables.proofs.ListLemmas.{listed_is_named}
use Rattle.bdb_undo.specs.declared.change.Named.TheVariants.{UserAdded, UserDropped}
use Rattle.bdb_undo.proofs.ChangeLemmas.{unnamed}
use Rattle.bdb_update.specs.Keeping.{SameNumbers}
use Rattle.bdb_update.specs.StoredLaws.{is_edges}
use Rattle.bdb_update.proofs.CountLemmas.{numbers_are_counted}
use Rattle.bdb_update.proofs.GrammarLemmas.{stored_is_in_grammar}
use Rattle.bdb_update.proofs.StayLemmas.{same_by_user}
use Rattle.bdb_update.proofs.StoreLemmas.{edges_alone, outside_edges, states_as}
use Rattle.bdb_worlds.specs.Growth.{SameOutside}
use Rattle.bdb_worlds.specs.UserEdges.{AddsUser, DropsUser, without_one_user, WritesDropped, WritesEdges}
use Rattle.bdb_catalog.specs.Place as emptied
use Rattle.bdb_catalog.specs.Place.{LosesUser, MayLoseUser, SomeMayLoseUser}
use Rattle.bdb_return.specs.Naming.{Leaves, LosesLastUser, LosesName, MayGetName, MayLoseName, SomeMayLeave, SomeMayLoseName, SomeUserIsLast, base_named, WritesLastUser, WritesLeave, WritesLoss}
use Rattle.bdb_return.specs.Numbers.{IsNextUser, StoreAny}
use Rattle.bdb_return.specs.Places.{LosesPlace, PlaceKeeps, WritesReturned}

-- ---- whom no state names

-- no state of a valid base names one who is no user of it
none_names : (k : Catalog) (stmts : List Stmt) (uid : ℕ) → IsValid k stmts → is_user k.users uid ≡ false → (w : List ℕ) → is_state stmts w ≡ true → names_user uid w ≡ false
none_names k stmts uid v none w s =
    let all : without_statements_of uid stmts ≡ stmts = filter_all (λ x. not (names_user uid x.path)) stmts
    (list_all_weaker (belongs k) (λ x. not (names_user uid x.path)) (λ x b. ap not (unnamed k.users uid x.path none (belongs_parts k x b).users)) stmts v.stmts.belong) in
    states_name_others stmts uid w (ap (λ xs. is_state xs w) all ∙ s)

-- ---- the rows of places

pub not_end : {X : Type 0} (xs : List X) (x : X) (n : ℕ) → (n ≡ length xs → ⊥) → slice_get (xs ++ x ∷ []) n ≡ slice_get xs n
not_end [] x zero h = absurd (h refl)
not_end [] x (suc n) h = refl
not_end (y ∷ xs) x zero h = refl
not_end (y ∷ xs) x (suc n) h = not_end xs x n (λ e. h (ap suc e))

-- the places without the last one
slots_without_last : (users : List UserSlot) (slot : UserSlot) (uid k : ℕ) → uid ≡ suc (length users) → cond (is_eq (nat_cmp k uid)) None (slot_of (users ++ slot ∷ []) k) ≡ slot_of users k
slots_without_last users slot uid k s = elim (cases_Bool (nat_eq k uid)) [
  | inl e ↦ cond-true (is_eq (nat_cmp k uid)) None (slot_of (users ++ slot ∷ []) k) (is_eq_nat_cmp k uid ∙ e)
      ∙ sym (ap (slot_of users) (eqb-true k uid e ∙ s) ∙ slice_get_past users (length users) (omega arith))
  | inr e ↦ cond-false (is_eq (nat_cmp k uid)) None (slot_of (users ++ slot ∷ []) k) (is_eq_nat_cmp k uid ∙ e) ∙ old k (λ z. false≢true (sym e ∙ eq-eqb k uid (z ∙ sym s)))
]
  where
    old : (k : ℕ) → (k ≡ suc (length users) → ⊥) → slot_of (users ++ slot ∷ []) k ≡ slot_of users k
    old zero n = refl
    old (suc m) n = not_end users slot m (λ e. n (ap suc e))

place_less : (t : Tables) (users : List UserSlot) (uid : ℕ) (slot : UserSlot) → uid ≡ length users + 1 → IsNum uid → Gives user_codec t (slot_of (users ++ slot ∷ []))
    → Gives user_codec (with_change user_codec t (uid, None)) (slot_of users)
place_less t users uid slot e num h =
    let last : uid ≡ suc (length users) = omega (arith, e) in
    gives_same user_codec (with_change user_codec t (uid, None)) (with_row_at user_codec (slot_of (users ++ slot ∷ [])) (uid, None)) (slot_of users)
    (λ k f. slots_without_last users slot uid k last)
    (change_gives user_codec numbers_in_order t (slot_of (users ++ slot ∷ [])) (uid, None) (record { key = num; row = tt }) h)

-- ---- the row of a place is changed, and edges

module _ (t m : Tables) (uid : ℕ) (o : Option UserSlot) (put : m ≡ with_change user_codec t (uid, o)) where
  abbrev is_users : ℕ → Bool
  is_users n = nat_eq n 2

  row_alone : SameBut is_users t m
  row_alone = subst (SameBut is_users t) (sym put) (change_same user_codec is_users t (uid, o) refl)

  -- the row leaves the states as they were
  states_before : (users : ℕ → Bool) (ns : Names) → HoldsStates users ns t → HoldsStates users ns m
  states_before users ns h = states_still is_users t m row_alone users ns refl refl refl refl refl h

  -- tables that have other places of users
  places_changed : (ns : Names) (ts : Tuples) (u : Tables) (b : Contents) (after : List UserSlot) → StoredAs ns ts t b
      → Gives user_codec (with_change user_codec t (uid, o)) (slot_of after) → HoldsStates (is_user after) ns u → SameOutside 9 10 m u
      → StoredAs ns ts u (record b { catalog = record b.catalog { users = after } })
  places_changed ns ts u b after h users states outside =
      let same = edges_alone m u outside in
      record {
        format = gives_still is_edges m u same meta_codec _ refl (gives_still is_users t m row_alone meta_codec _ refl h.format);
        users = gives_still is_edges m u same user_codec _ refl (subst (λ z. Gives user_codec z (slot_of after)) (sym put) users);
        rels = gives_still is_edges m u same rel_codec _ refl (gives_still is_users t m row_alone rel_codec _ refl h.rels);
        tuples = tuples_still is_edges m u same b.stmts ts refl refl (tuples_still is_users t m row_alone b.stmts ts refl refl h.tuples);
        states = states;
        worlds = h.worlds;
        rows = gives_still is_edges m u same val_codec _ refl (gives_still is_users t m row_alone val_codec _ refl h.rows);
        plain = gives_still is_edges m u same plain_codec _ refl (gives_still is_users t m row_alone plain_codec _ refl h.plain);
        outside = λ n k out. same n k (outside_edges n out) ∙ row_alone n k (outside_one 2 refl n out) ∙ h.outside n k out;
      }

-- ---- the last place goes

-- of the users with one more, all but him are those of before
all_but_last_are : (users : List UserSlot) (name : List ℕ) (uid : ℕ) → uid ≡ length users + 1 → (i : ℕ) → without_one_user (is_user (users ++ Live name ∷ [])) uid i ≡ is_user users i
all_but_last_are users name uid e i =
    ap (λ b. not (nat_eq i uid) && b) (sym (user_or_new users name uid i e)) ∙ elim (cases_Bool (nat_eq i uid)) [
      | inl s ↦
          ap (λ b. not b && (b || is_user users i)) s ∙ sym (ap (is_user users) (eqb-true i uid s) ∙ next_is_no_user users uid e)
      | inr d ↦ ap (λ b. not b && (b || is_user users i)) d
    ]

last_is_user : (users : List UserSlot) (name : List ℕ) (uid : ℕ) → uid ≡ length users + 1 → is_user (users ++ Live name ∷ []) uid ≡ true
last_is_user users name uid e = sym (user_or_new users name uid uid e) ∙ ap (λ b. b || is_user users uid) (eq-eqb uid uid refl)

-- the worlds have their names without him
without_last : (t m u : Tables) (uid : ℕ) → m ≡ tables.remove t (place user_codec uid) → DropsUser m u uid → (name : List ℕ) (a : Contents) → uid ≡ length a.catalog.users + 1
    → (h : MayLoseName t (UserAdded name) a) → HoldsStates (without_one_user (is_user (a.catalog.users ++ Live name ∷ [])) uid) h.stored.names u
without_last t m u uid put drops name a last h =
    let more = a.catalog.users ++ Live name ∷ [] in
    let s = h.stored in
    let none = none_names a.catalog a.stmts uid h.between.before (next_is_no_user a.catalog.users uid last) in
    let now = states_before t m uid None put (is_user more) s.names s.stored.states in
    drops (record { users = is_user more; names = s.names }) now (λ w e. listed_is_named uid w ∙ none w (sym (s.stored.worlds w) ∙ e))

pub place_lost : (t m u : Tables) (uid : ℕ) → IsNum uid → m ≡ tables.remove t (place user_codec uid) → DropsUser m u uid → SameOutside 9 10 m u → LosesPlace t u uid
place_lost t m u uid num put drops outside name a last h =
    let users = a.catalog.users in
    let more = users ++ Live name ∷ [] in
    let s = h.stored in
    let left = without_last t m u uid put drops name a last h in
    record {
      names = s.names;
      tuples = s.tuples;
      stored = places_changed t m uid None put s.names s.tuples u (base_named (UserAdded name) a) users s.stored
          (place_less t users uid (Live name) last num s.stored.users)
          (states_as (without_one_user (is_user more) uid) (is_user users) s.names u (all_but_last_are users name uid last) left) outside;
    }

-- worlds and tuples keep their numbers
pub place_keeps : (t m u : Tables) (uid : ℕ) → m ≡ tables.remove t (place user_codec uid) → DropsUser m u uid → SameOutside 9 10 m u → PlaceKeeps t u uid
place_keeps t m u uid put drops outside name a last h =
    let more = is_user (a.catalog.users ++ Live name ∷ []) in
    same_by_user t m u uid None more (without_one_user more uid) h.stored.names put outside h.stored.stored.states (without_last t m u uid put drops name a last h)

-- the next number is above that of the last user
pub some_next : (t : Tables) (next : ℕ) → IsNextUser t next → SomeUserIsLast t → 1 ≤ next
some_next t next is s = let e = is (base_named (UserAdded s.name) s.some.base) s.some.may.stored in omega (arith, e)

pub last_user_lost : (t m u : Tables) (next : ℕ) → m ≡ t → IsNextUser t next → LosesPlace m u (next - 1) → LosesLastUser t u
last_user_lost t m u next same is loses name a h =
    let e = is (base_named (UserAdded name) a) h.stored in
    let l = length_push a.catalog.users (Live name) in
    loses name a (omega (arith, e, l)) (subst (λ (z : Tables). MayLoseName z (UserAdded name) a) (sym same) h)

pub last_user_keeps : (t m u : Tables) (next : ℕ) → m ≡ t → IsNextUser t next → PlaceKeeps m u (next - 1) → SomeUserIsLast t → SameNumbers t u
last_user_keeps t m u next same is keeps s =
    let a = s.some.base in
    let e = is (base_named (UserAdded s.name) a) s.some.may.stored in
    let l = length_push a.catalog.users (Live s.name) in
    subst (λ (z : Tables). SameNumbers z u) same
    (keeps s.name a (omega (arith, e, l)) (subst (λ (z : Tables). MayLoseName z (UserAdded s.name) a) (sym same) s.some.may))

pub last_user_stored : (t m : Tables) → m ≡ t → SomeUserIsLast t → StoreAny m
last_user_stored t m same s = subst StoreAny (sym same) (record { base = base_named (UserAdded s.name) s.some.base; stored = s.some.may.stored })

pub any_grammar : (t : Tables) → StoreAny t → InGrammar t
any_grammar t s = stored_is_in_grammar t s.base s.stored

-- ---- he who left comes back

-- of the users without one, and he: those of before
all_and_he : (k : Catalog) (uid : ℕ) → is_user k.users uid ≡ true → (i : ℕ) → with_one_user (is_user (without_user k uid).users) uid i ≡ is_user k.users i
all_and_he k uid user i =
    ap (λ b. nat_eq i uid || b) (others_are_users k uid i user) ∙ elim (cases_Bool (nat_eq i uid)) [
      | inl s ↦ ap (λ b. b || (not b && is_user k.users i)) s ∙ sym (ap (is_user k.users) (eqb-true i uid s) ∙ user)
      | inr d ↦ ap (λ b. b || (not b && is_user k.users i)) d
    ]

-- he has a name that may be written
pub name_is_plain : (t : Tables) (uid : ℕ) (name : List ℕ) → SomeMayLoseName t (UserDropped uid name) → IsPlain name
name_is_plain t uid name s =
    let users = s.base.catalog.users in
    plain_at users (uid - 1) name s.may.between.before.catalog.users_plain (named_at users (uid - 1) name (name_found users uid name s.may.between.can).1)

pub left_stored : (t : Tables) (uid : ℕ) (name : List ℕ) → SomeMayLoseName t (UserDropped uid name) → StoreAny t
left_stored t uid name s = record { base = base_named (UserDropped uid name) s.base; stored = s.may.stored }

-- the worlds have their names with him
with_him : (t m u : Tables) (uid : ℕ) (name : List ℕ) → m ≡ tables.insert t (place user_codec uid) (user_codec.row_bytes (Live name)) → AddsUser m u uid → (a : Contents)
    → (h : MayLoseName t (UserDropped uid name) a) → HoldsStates (with_one_user (is_user (without_user a.catalog uid).users) uid) h.stored.names u
with_him t m u uid name put adds a h =
    let k = a.catalog in
    let user = (name_found k.users uid name h.between.can).0 in
    let left = (without_user k uid).users in
    let s = h.stored in
    let now = states_before t m uid (Some (Live name)) put (is_user left) s.names s.stored.states in
    adds (record { users = is_user left; names = s.names }) now (who_is_gone_is_no_user left uid (who_leaves_is_gone k uid user))

pub user_is_back : (t m u : Tables) (uid : ℕ) (name : List ℕ) → IsNum uid → IsPlain name → m ≡ tables.insert t (place user_codec uid) (user_codec.row_bytes (Live name))
    → AddsUser m u uid → SameOutside 9 10 m u → LosesName t u (UserDropped uid name)
user_is_back t m u uid name num plain put adds outside a h =
    let k = a.catalog in
    let user = (name_found k.users uid name h.between.can).0 in
    let left = (without_user k uid).users in
    let s = h.stored in
    let after = with_him t m u uid name put adds a h in
    let len = length-set k.users (uid - 1) Gone in
    let within = user_within k.users uid user in
    let set = user_set t left uid (Live name) (user_above k.users uid user) (omega (arith, len, within)) num plain s.stored.users in
    let same : slice_set left (uid - 1) (Live name) ≡ k.users = ap (λ (c : Catalog). c.users) (comes_back k uid name h.between.can) in
    record {
      names = s.names;
      tuples = s.tuples;
      stored = places_changed t m uid (Some (Live name)) put s.names s.tuples u (base_named (UserDropped uid name) a) k.users s.stored
          (subst (λ (us : List UserSlot). Gives user_codec (with_change user_codec t (uid, Some (Live name))) (slot_of us)) same set)
          (states_as (with_one_user (is_user left) uid) (is_user k.users) s.names u (all_and_he k uid user) after) outside;
    }

pub back_keeps : (t m u : Tables) (uid : ℕ) (name : List ℕ) → m ≡ tables.insert t (place user_codec uid) (user_codec.row_bytes (Live name)) → AddsUser m u uid → SameOutside 9 10 m u
    → SomeMayLoseName t (UserDropped uid name) → SameNumbers t u
back_keeps t m u uid name put adds outside h =
    let left = is_user (without_user h.base.catalog uid).users in
    let s = h.may.stored in
    same_by_user t m u uid (Some (Live name)) left (with_one_user left uid) s.names put outside s.stored.states (with_him t m u uid name put adds h.base h.may)

-- ---- he leaves whose statements are gone

-- no state of a base names him whose statements are gone
may_lose : (t : Tables) (uid : ℕ) (name : List ℕ) (a : Contents) → MayGetName t (UserDropped uid name) a → MayLoseUser t uid a
may_lose t uid name a h =
    let k = a.catalog in
    let user = (name_found k.users uid name h.between.can).0 in
    record {
      stored = h.stored;
      user = user;
      unnamed = none_names (without_user k uid) a.stmts uid h.between.after (who_is_gone_is_no_user (without_user k uid).users uid (who_leaves_is_gone k uid user));
    }

pub some_may_lose : (t : Tables) (uid : ℕ) → SomeMayLeave t uid → SomeMayLoseUser t uid
some_may_lose t uid s = record { base = s.some.base; may = may_lose t uid s.name s.some.base s.some.may }

pub user_leaves : (t u : Tables) (uid : ℕ) → LosesUser t u uid → Leaves t u uid
user_leaves t u uid loses name a h = loses a (may_lose t uid name a h)

pub leave_written : (old new : Seen) (uid : ℕ) → emptied.WritesEmptied old new uid → WritesLeave old new uid
leave_written old new uid writes name a h = writes a (may_lose old.kept uid name a h)

-- ---- how often is written

pub place_written : (old mid new : Seen) (uid : ℕ) → mid.kept ≡ tables.remove old.kept (place user_codec uid) → mid.writes ≤ new.writes → RoseBy 1 old.writes mid.writes
    → WritesDropped mid new uid → WritesReturned old new uid
place_written old mid new uid put le one edges name a last h =
    let users = a.catalog.users in
    let more = users ++ Live name ∷ [] in
    let s = h.stored in
    let none = none_names a.catalog a.stmts uid h.between.before (next_is_no_user users uid last) in
    rises_twice_and_once (length s.names.used) (world_count a.stmts) old.writes mid.writes new.writes le (numbers_are_counted s.names s.stored.states.names a.stmts s.stored.worlds) one
    (edges (record { users = is_user more; names = s.names }) (states_before old.kept mid.kept uid None put (is_user more) s.names s.stored.states)
    (record { user = last_is_user users name uid last; unnamed = λ w e. listed_is_named uid w ∙ none w (sym (s.stored.worlds w) ∙ e) }))

pub last_user_written : (old mid new : Seen) (next : ℕ) → mid.kept ≡ old.kept → mid.writes ≡ old.writes → IsNextUser old.kept next → WritesReturned mid new (next - 1) → WritesLastUser old new
last_user_written old mid new next same still is writes name a h =
    let e = is (base_named (UserAdded name) a) h.stored in
    let l = length_push a.catalog.users (Live name) in
    subst (λ (n : ℕ). Rises (2 * world_count a.stmts + 1) n new.writes) still
    (writes name a (omega (arith, e, l)) (subst (λ (z : Tables). MayLoseName z (UserAdded name) a) (sym same) h))

pub back_written : (old mid new : Seen) (uid : ℕ) (name : List ℕ) → mid.kept ≡ tables.insert old.kept (place user_codec uid) (user_codec.row_bytes (Live name))
    → mid.writes ≤ new.writes → RoseBy 1 old.writes mid.writes → WritesEdges mid new uid → WritesLoss old new (UserDropped uid name)
back_written old mid new uid name put le one edges a h =
    let k = a.catalog in
    let user = (name_found k.users uid name h.between.can).0 in
    let left = (without_user k uid).users in
    let s = h.stored in
    rises_twice_and_once (length s.names.used) (world_count a.stmts) old.writes mid.writes new.writes le (numbers_are_counted s.names s.stored.states.names a.stmts s.stored.worlds) one
    (edges (record { users = is_user left; names = s.names }) (states_before old.kept mid.kept uid (Some (Live name)) put (is_user left) s.names s.stored.states)
    (who_is_gone_is_no_user left uid (who_leaves_is_gone k uid user)))
