-- Rows of the catalog put into tables that store a base.
use Rattle.std.proofs.Common.{◌≡◌, ℕ, ◌-◌, Bool, true, false, not, ◌&&◌, ◌||◌, nat_eq, nat_le, nat_lt, List, [], ◌∷◌, ◌++◌, slice_set, Option, Some, None, is_some, cond, suc, zero, refl, ap, sym, ◌∙◌, arith}
use Rattle.std.specs.List.{list_all}
use Rattle.std.specs.Option.{option_and_then}
use Rattle.std.proofs.lemmas.Bool.{or_from}
use Rattle.std.proofs.lemmas.Bool.Decides.{nat_tests}
use Rattle.bdb_base.specs.Bases.{Contents, belongs, is_user, key_lengths, name_at}
use Rattle.bdb_base.specs.Segments.{is_suffix}
use Rattle.bdb_base.specs.States.{edge_target}
use Rattle.bdb_base.specs.declared.kinds.Catalog.{Catalog}
use Rattle.bdb_base.specs.declared.kinds.RelDef.{RelDef}
use Rattle.bdb_base.specs.declared.kinds.Stmt.{Stmt}
use Rattle.bdb_base.specs.declared.kinds.UserSlot.{UserSlot}
use Rattle.bdb_base.specs.declared.kinds.UserSlot.TheVariants.{Live, Gone}
use Rattle.bdb_keep.specs.Tables.{Tables}
use Rattle.bdb_names.proofs.TurnedLemmas.{tables_same}
use Rattle.bdb_tables.specs.InUse.{meta_codec, user_codec, rel_codec, val_codec, plain_codec}
use Rattle.bdb_tables.specs.Names.{Names, path_of, number_of, is_named, depth_of, link_of, edge_of, edge_from}
use Rattle.bdb_tables.specs.Rows.{HoldsRows, HoldsTuples, Tuples, row_for}
use Rattle.bdb_tables.specs.States.{HoldsStates}
use Rattle.bdb_tables.specs.Stored.{is_table, slot_of, SameBut, StoredAs}
use Rattle.bdb_tables.specs.Writes.{Gives, with_change}
use Rattle.bdb_tables.proofs.CatalogLemmas.{user_more, user_gone, relation_more}
use Rattle.bdb_tables.proofs.SameLemmas.{outside_one, change_same, gives_still, tuples_still, states_still}
use Rattle.bdb_tables.proofs.WriteLemmas.{gives_same}
use Rattle.bdb_worlds.specs.Growth.{SameOutside}
use Rattle.bdb_update.specs.StoredLaws.{is_edges, PutStoresRelation, EdgesStoreUser, EdgesStoreWithoutUser, GonePlaceStored}
use Rattle.bdb_update.proofs.LengthLemmas.{row_stays}

-- ---- a relation

rows_stay : (c : Catalog) (def : RelDef) (stmts : List Stmt) (path : ℕ → Option (List ℕ)) (ts : Tuples) (t : Tables) → list_all (belongs c) stmts ≡ true → HoldsTuples stmts ts t
    → HoldsRows (key_lengths c.rels) stmts path ts.tuple t → HoldsRows (key_lengths (c.rels ++ def ∷ [])) stmts path ts.tuple t
rows_stay c def stmts path ts t all h rows =
    let keys = key_lengths c.rels in
    let more = key_lengths (c.rels ++ def ∷ []) in
    gives_same val_codec t (row_for keys stmts path ts.tuple) (row_for more stmts path ts.tuple)
    (λ k f. row_stays c def stmts path ts t all h k) rows

pub put_stores_relation : PutStoresRelation
put_stores_relation t b rel def s all e num fits =
    let h = s.stored in
    let x : ℕ × Option RelDef = (rel, Some def) in
    let u = with_change rel_codec t x in
    let three : ℕ → Bool = λ n. nat_eq n 3 in
    let same : SameBut three t u = change_same rel_codec three t x refl in
    record {
      names = s.names;
      tuples = s.tuples;
      stored = record {
        format = gives_still three t u same meta_codec _ refl h.format;
        users = gives_still three t u same user_codec _ refl h.users;
        rels = relation_more t b.catalog.rels rel def e num fits h.rels;
        tuples = tuples_still three t u same b.stmts s.tuples refl refl h.tuples;
        states = states_still three t u same _ s.names refl refl refl refl refl h.states;
        worlds = h.worlds;
        rows = gives_still three t u same val_codec _ refl (rows_stay b.catalog def b.stmts (path_of s.names) s.tuples t all h.tuples h.rows);
        plain = gives_still three t u same plain_codec _ refl h.plain;
        outside = λ n k out. same n k (outside_one 3 refl n out) ∙ h.outside n k out;
      };
    }

-- ---- a user

-- the range of two tables is those of edges
pub edges_alone : (t u : Tables) → SameOutside 9 10 t u → SameBut is_edges t u
edges_alone t u same n k other = same n k (no_edges n other)
  where
    no_edges : (n : ℕ) → (nat_eq n 9 || nat_eq n 10) ≡ false → (nat_le 9 n && nat_le n 10) ≡ false
    no_edges n e = grind (arith, nat_tests)

pub outside_edges : (n : ℕ) → is_table n ≡ false → is_edges n ≡ false
outside_edges n h = or_from (nat_eq n 9) (nat_eq n 10) (outside_one 9 refl n h) (outside_one 10 refl n h)

-- a list of users that the tables have once the row of one place is put
users_put : (ns : Names) (ts : Tuples) (t u : Tables) (b : Contents) (uid : ℕ) (slot : UserSlot) (after : List UserSlot) → StoredAs ns ts t b
    → Gives user_codec (with_change user_codec t (uid, Some slot)) (slot_of after)
    → HoldsStates (is_user after) ns u
    → SameBut is_edges (with_change user_codec t (uid, Some slot)) u
    → StoredAs ns ts u (record b { catalog = record b.catalog { users = after } })
users_put ns ts t u b uid slot after h users states same =
    let x : ℕ × Option UserSlot = (uid, Some slot) in
    let m = with_change user_codec t x in
    let two : ℕ → Bool = λ n. nat_eq n 2 in
    let first : SameBut two t m = change_same user_codec two t x refl in
    record {
      format = gives_still is_edges m u same meta_codec _ refl (gives_still two t m first meta_codec _ refl h.format);
      users = gives_still is_edges m u same user_codec _ refl users;
      rels = gives_still is_edges m u same rel_codec _ refl (gives_still two t m first rel_codec _ refl h.rels);
      tuples = tuples_still is_edges m u same b.stmts ts refl refl (tuples_still two t m first b.stmts ts refl refl h.tuples);
      states = states;
      worlds = h.worlds;
      rows = gives_still is_edges m u same val_codec _ refl (gives_still two t m first val_codec _ refl h.rows);
      plain = gives_still is_edges m u same plain_codec _ refl (gives_still two t m first plain_codec _ refl h.plain);
      outside = λ n k out. same n k (outside_edges n out) ∙ first n k (outside_one 2 refl n out) ∙ h.outside n k out;
    }

pub edges_store_user : EdgesStoreUser
edges_store_user ns ts t u b uid name h e num fits states same =
    users_put ns ts t u b uid (Live name) (b.catalog.users ++ Live name ∷ []) h (user_more t b.catalog.users uid (Live name) e num fits h.users) states same

pub edges_store_without_user : EdgesStoreWithoutUser
edges_store_without_user ns ts t u b uid h is states same =
    users_put ns ts t u b uid Gone (slice_set b.catalog.users (uid - 1) Gone) h (user_gone t b.catalog.users uid is (h.states.numbers uid is) h.users) states same

-- ---- a place without a user

-- states over users that are the same
edges_as : (f g : ℕ → Bool) (ns : Names) → ((i : ℕ) → f i ≡ g i) → (k : ℕ × ℕ) → edge_of f ns k ≡ edge_of g ns k
edges_as f g ns same k = by (path_of ns k.0)
  where
    by : (o : Option (List ℕ)) → option_and_then (edge_from f ns k.1) o ≡ option_and_then (edge_from g ns k.1) o
    by None = refl
    by (Some w) = ap (λ b. cond (b && not (is_suffix (k.1 ∷ []) w)) (number_of ns (edge_target (is_named ns) w k.1)) None) (same k.1)

all_as : (f g : ℕ → Bool) → ((i : ℕ) → f i ≡ g i) → (w : List ℕ) → list_all f w ≡ list_all g w
all_as f g same [] = refl
all_as f g same (i ∷ w) = ap (λ b. b && list_all f w) (same i) ∙ ap (λ b. g i && b) (all_as f g same w)

pub states_as : (f g : ℕ → Bool) (ns : Names) (t : Tables) → ((i : ℕ) → f i ≡ g i) → HoldsStates f ns t → HoldsStates g ns t
states_as f g ns t same h = record {
  names = h.names;
  numbers = λ i e. h.numbers i (same i ∙ e);
  own = λ w e. sym (all_as f g same w) ∙ h.own w e;
  tables = tables_same t (depth_of ns) (link_of ns) (edge_of f ns) (depth_of ns) (link_of ns) (edge_of g ns) (λ k. refl) (λ k. refl) (edges_as f g ns same) h.tables;
}

no_name_more : (users : List UserSlot) (at : ℕ) → name_at users at ≡ name_at (users ++ Gone ∷ []) at
no_name_more [] zero = refl
no_name_more [] (suc at) = refl
no_name_more (slot ∷ users) zero = refl
no_name_more (slot ∷ users) (suc at) = no_name_more users at

-- one who is gone at the end is no user
pub no_user_more : (users : List UserSlot) (i : ℕ) → is_user users i ≡ is_user (users ++ Gone ∷ []) i
no_user_more users i = ap (λ o. nat_lt 0 i && is_some o) (no_name_more users (i - 1))

pub gone_place_stored : GonePlaceStored
gone_place_stored ns ts t b uid h e num =
    let x : ℕ × Option UserSlot = (uid, Some Gone) in
    let m = with_change user_codec t x in
    let two : ℕ → Bool = λ n. nat_eq n 2 in
    let users = b.catalog.users in
    let still : HoldsStates (is_user users) ns m = states_still two t m (change_same user_codec two t x refl) _ ns refl refl refl refl refl h.states in
    users_put ns ts t m b uid Gone (users ++ Gone ∷ []) h (user_more t users uid Gone e num tt h.users)
    (states_as (is_user users) (is_user (users ++ Gone ∷ [])) ns m (no_user_more users) still) (λ n k out. refl)
