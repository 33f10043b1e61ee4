-- The worlds in order, as they are gone through: the children of each are those that come next.
use Rattle.std.proofs.Common.{◌≡◌, ◌∙◌, ℕ, ◌+◌, ◌<◌, ◌≤◌, Bool, true, List, [], ◌∷◌, ◌++◌, length, map, take, get_or, Option, Some, ap, sym, arith}
use Rattle.std.specs.List.{list_all}
use Rattle.std.specs.Option.{unwrap_or}
use Rattle.std.proofs.lemmas.List.{length-map, map-append}
use Rattle.bdb_base.specs.Bases.{Contents, is_user}
use Rattle.bdb_base.specs.Queries.{user_numbers}
use Rattle.bdb_base.specs.OrderLemmas.{path_exact}
use Rattle.bdb_base.specs.States.{states_of, stated_prefixes}
use Rattle.bdb_base.proofs.SetLemmas.{set_is_ascending}
use Rattle.bdb_base.specs.Causes.{is_listed}
use Rattle.bdb_keep.specs.Tables.{Tables}
use Rattle.bdb_names.proofs.NamedLemmas.{user_of_end}
use Rattle.bdb_names.proofs.NameLemmas.{root_is_named}
use Rattle.bdb_tables.specs.Names.{path_of, is_named}
use Rattle.bdb_stored.specs.Tree.{children_of, grown_from}
use Rattle.bdb_catalog.specs.Bases.{StoresSome, StoresValid}
use Rattle.bdb_catalog.specs.Opening.{IsPartOf}
use Rattle.bdb_stored.specs.Worlds.{TellsChildren, TellsStates, named_world}
use Rattle.bdb_names.specs.declared.named.NamedWorld.{NamedWorld}
use Rattle.bdb_stored.proofs.PlaceLemmas.{all_get, get_named, path_named, state_named, states_named}
use Rattle.bdb_stored.proofs.TreeLemmas.{grown_has, grown_more, grown_whole, grown_reads}
use Rattle.bdb_stored.proofs.UserLemmas.{numbers_are_users, user_is_listed, users_rise}

-- these are the empty path's world, and the children of the first states
abbrev pub HaveGrown : Tables → ℕ → List NamedWorld → Type 0
HaveGrown t k worlds = (b : Contents) (v : StoresValid t b)
    → worlds ≡ map (named_world v.stored.names) (grown_from (is_named v.stored.names) (user_numbers b.catalog.users) (take k (states_of b.stmts)))

module _ (t : Tables) (b : Contents) (v : StoresValid t b) where
  abbrev P : List ℕ → Bool
  P = is_named v.stored.names

  abbrev users : List ℕ
  users = user_numbers b.catalog.users

  abbrev states : List (List ℕ)
  states = states_of b.stmts

  own : (w : List ℕ) (i : ℕ) → is_named v.stored.names (w ++ i ∷ []) ≡ true → is_listed i users ≡ true
  own w i e = user_is_listed b.catalog.users i (user_of_end (is_user b.catalog.users) w i (v.stored.stored.states.own (w ++ i ∷ []) e))

  -- a world is there as soon as those before it have been gone through
  pub has_grown : (k : ℕ) (worlds : List NamedWorld) → HaveGrown t k worlds → k < length states → k < length worlds
  has_grown k worlds grown l =
      let n = ap length (grown b v) ∙ length-map (grown_from P users (take k states)) (named_world v.stored.names) in
      let m = grown_has P (root_is_named v.stored.names v.stored.stored.states.names) v.stored.stored.states.names.prefixes users (users_rise b.catalog.users) own states
      (set_is_ascending path_exact (stated_prefixes b.stmts)) (state_named t b v) k l in
      omega arith

  pub grow_more : (k : ℕ) (x : NamedWorld) (uids : List ℕ) (worlds children next : List NamedWorld) → k < length states → HaveGrown t k worlds → x ≡ get_or worlds k x → uids ≡ users
      → TellsChildren t x uids children → next ≡ worlds ++ children
      → next ≡ map (named_world v.stored.names) (grown_from (is_named v.stored.names) users (take (k + 1) states))
  grow_more k x uids worlds children next l grown is same told made =
      let ns = v.stored.names in
      let names = v.stored.stored.states.names in
      let rise = users_rise b.catalog.users in
      let sorted = set_is_ascending path_exact (stated_prefixes b.stmts) in
      let front = grown_from P users (take k states) in
      let s = get_or states k [] in
      let there = grown_has P (root_is_named ns names) names.prefixes users rise own states sorted (state_named t b v) k l in
      let world : x ≡ named_world ns s =
      is ∙ ap (λ xs. get_or xs k x) (grown b v) ∙ get_named ns front k x there
      ∙ ap (named_world ns) (grown_reads P (root_is_named ns names) names.prefixes users rise own states sorted (state_named t b v) k l) in
      let path : x.path ≡ s = ap (λ (y : NamedWorld). y.path) world in
      let state : path_of ns x.wid ≡ Some x.path = ap (λ (y : NamedWorld). path_of ns y.wid) world ∙ path_named ns names s (all_get (is_named ns) states k l (states_named t b v)) ∙ ap Some (sym path) in
      let more = told b v state (ap (list_all (is_user b.catalog.users)) same ∙ numbers_are_users b.catalog.users) in
      made
      ∙ ap (λ xs. worlds ++ xs) (more ∙ ap (λ ks. map (named_world ns) (children_of P ks x.path)) same ∙ ap (λ w. map (named_world ns) (children_of P users w)) path)
      ∙ ap (λ xs. xs ++ map (named_world ns) (children_of P users s)) (grown b v)
      ∙ sym (map-append (named_world ns) front (children_of P users s))
      ∙ ap (map (named_world ns)) (sym (grown_more P (root_is_named ns names) names.prefixes users rise own states sorted (state_named t b v) k l))

  pub grow_whole : (k : ℕ) (worlds : List NamedWorld) → length states ≤ k → HaveGrown t k worlds → worlds ≡ map (named_world v.stored.names) states
  grow_whole k worlds l grown =
      let names = v.stored.stored.states.names in
      grown b v
      ∙ ap (map (named_world v.stored.names)) (grown_whole P (root_is_named v.stored.names names) names.prefixes users (users_rise b.catalog.users) own states
      (set_is_ascending path_exact (stated_prefixes b.stmts)) (state_named t b v) k l)

-- ---- the steps of the loop

pub grown_begin : (t : Tables) (worlds : List NamedWorld) → worlds ≡ record { wid = 0; path = [] } ∷ [] → HaveGrown t 0 worlds
grown_begin t worlds is b v = is ∙ ap (λ (o : Option ℕ). root (unwrap_or o 0) ∷ []) (sym v.stored.stored.states.names.root)
  where
    root : ℕ → NamedWorld
    root n = record { wid = n; path = [] }

module _ (t : Tables) (count : ℕ) (all : IsPartOf (λ b. length (states_of b.stmts)) t count) where
  pub grown_there : (k : ℕ) (worlds : List NamedWorld) → StoresSome t → HaveGrown t k worlds → k < count → k < length worlds
  grown_there k worlds some grown l = let n = all some.base some.stores in has_grown t some.base some.stores k worlds grown (omega arith)

  pub grown_next : (k : ℕ) (x : NamedWorld) (uids : List ℕ) (worlds children next : List NamedWorld) → k < count → HaveGrown t k worlds → x ≡ get_or worlds k x
      → IsPartOf (λ b. user_numbers b.catalog.users) t uids → TellsChildren t x uids children → next ≡ worlds ++ children → HaveGrown t (k + 1) next
  grown_next k x uids worlds children next l grown is same told made b v = let n = all b v in grow_more t b v k x uids worlds children next (omega arith) grown is (same b v) told made

  pub grown_all : (k : ℕ) (worlds : List NamedWorld) → count ≤ k → HaveGrown t k worlds → TellsStates t worlds
  grown_all k worlds l grown b v = let n = all b v in grow_whole t b v k worlds (omega arith) grown
