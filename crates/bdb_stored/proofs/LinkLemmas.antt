-- Where suffix links and edges lead, by the places of the states.
use Rattle.std.proofs.Common.{◌≡◌, ◌∙◌, ℕ, ◌+◌, ◌<◌, ◌≤◌, true, false, List, [], ◌∷◌, ◌++◌, length, map, take, get_or, Option, Some, None, refl, ap, sym, subst, inl, inr, arith}
use Rattle.std.specs.List.{list_all, flat_map}
use Rattle.std.specs.Option.{option_map}
use Rattle.std.proofs.lemmas.Bool.{cases_Bool, cond-true, cond-false}
use Rattle.std.proofs.lemmas.Grind.{flat_map-append}
use Rattle.std.proofs.lemmas.List.{append-nil, length-map, map-append, take_all, take_more}
use Rattle.bdb_base.specs.Bases.{Contents, is_user}
use Rattle.bdb_base.specs.Order.{path_cmp}
use Rattle.bdb_base.specs.Queries.{user_numbers}
use Rattle.bdb_base.specs.SortedSet.{is_member}
use Rattle.bdb_base.specs.Segments.{is_suffix}
use Rattle.bdb_base.specs.States.{deepest_suffix, states_of}
use Rattle.bdb_base.proofs.OptionLemmas.{none_is_some, same_some}
use Rattle.bdb_canon.specs.Canonical.{edges_at, edges_from, link_place, world_entry}
use Rattle.bdb_canon.specs.declared.structure.CanonEdge.{CanonEdge}
use Rattle.bdb_canon.specs.declared.structure.CanonWorld.{CanonWorld}
use Rattle.bdb_keep.specs.Tables.{Tables}
use Rattle.bdb_names.proofs.NameLemmas.{deep_number, edge_at, edge_found, edge_is, link_at, link_at_root}
use Rattle.bdb_paths.specs.Places.{place_in}
use Rattle.bdb_paths.proofs.SuffixLemmas.{deepest_same}
use Rattle.bdb_tables.specs.Codec.{HasAt}
use Rattle.bdb_tables.specs.InUse.{edge_codec, link_codec}
use Rattle.bdb_tables.specs.InUseLaws.{number_rows_are_one}
use Rattle.bdb_tables.specs.Names.{Names, AreNames, path_of, number_of, is_named, link_of}
use Rattle.bdb_worlds.proofs.ReadLemmas.{found_is}
use Rattle.bdb_stored.specs.Items.{with_item}
use Rattle.bdb_stored.specs.Structure.{TellsEdge, TellsEdges, TellsLink, edges_of, worlds_with_links}
use Rattle.bdb_catalog.specs.Bases.{StoresValid}
use Rattle.bdb_catalog.specs.Opening.{IsPartOf}
use Rattle.bdb_stored.specs.Worlds.{AreStatesInOrder, TellsStates, place_of_number}
use Rattle.bdb_names.specs.declared.named.NamedWorld.{NamedWorld}
use Rattle.bdb_stored.proofs.ChildLemmas.{edge_is_read, end_is, users_less}
use Rattle.bdb_stored.proofs.PlaceLemmas.{at_place, place_of_state, state_named}
use Rattle.bdb_stored.proofs.UserLemmas.{numbers_are_users}

module _ (t : Tables) (b : Contents) (v : StoresValid t b) (worlds : List NamedWorld) (are : AreStatesInOrder t b v worlds) where
  abbrev ns : Names
  ns = v.stored.names

  abbrev names : AreNames ns
  names = v.stored.stored.states.names

  abbrev states : List (List ℕ)
  states = states_of b.stmts

  -- the deepest end among the states is the deepest one with a number
  same_end : (w : List ℕ) → deepest_suffix (is_named ns) w ≡ deepest_suffix (is_member path_cmp states) w
  same_end w = sym (deepest_same (is_member path_cmp states) (is_named ns) (state_named t b v) w)

  -- a number of the deepest end stands at the place of that end
  place_of_end : (w : List ℕ) (m : ℕ) → number_of ns (deepest_suffix (is_named ns) w) ≡ Some m → place_of_number worlds m ≡ place_in path_cmp states (deepest_suffix (is_member path_cmp states) w)
  place_of_end w m e = place_of_state t b v worlds are (deepest_suffix (is_named ns) w) m e ∙ ap (place_in path_cmp states) (same_end w)

  -- ---- suffix links

  pub link_is : (wid : ℕ) (w : List ℕ) → path_of ns wid ≡ Some w → (found : Option ℕ) → HasAt link_codec t wid found → option_map (place_of_number worlds) found ≡ link_place states w
  link_is wid w e found has =
      let read : found ≡ link_of ns wid = found_is link_codec number_rows_are_one t (link_of ns) v.stored.stored.states.tables.link wid (names.sized w wid (names.named wid w e)) found has in
      by w e (read)
    where
      by : (u : List ℕ) → path_of ns wid ≡ Some u → found ≡ link_of ns wid → option_map (place_of_number worlds) found ≡ link_place states u
      by [] f read = ap (option_map (place_of_number worlds)) (read ∙ link_at_root ns wid f)
      by (i ∷ u) f read =
          let m = deep_number ns names u in
          ap (option_map (place_of_number worlds)) (read ∙ link_at ns wid i u f ∙ m.1) ∙ ap Some (place_of_end u m.0 m.1)

  -- ---- edges

  edge_made : ℕ → ℕ → ℕ → CanonEdge
  edge_made from uid to = record { from = from; uid = uid; to = to }

  module _ (wid uid from : ℕ) (w : List ℕ) (path : path_of ns wid ≡ Some w) (user : is_user b.catalog.users uid ≡ true) (place : from ≡ place_in path_cmp states w) where
    pub no_edge_is : HasAt edge_codec t (wid, uid) None → [] ≡ edges_at states w uid
    no_edge_is has = elim (cases_Bool (is_suffix (uid ∷ []) w)) [
      | inl e ↦ sym (cond-true (is_suffix (uid ∷ []) w) [] (record { from = place_in path_cmp states w; uid = uid; to = place_in path_cmp states (deepest_suffix (is_member path_cmp states) (w ++ uid ∷ [])) } ∷ []) e)
      | inr e ↦
          let m = deep_number ns names (w ++ uid ∷ []) in
          absurd (none_is_some m.0 (edge_is_read t b v wid uid w path user None has ∙ edge_is (is_user b.catalog.users) ns uid w user e ∙ m.1))
    ]

    pub one_edge_is : (target to : ℕ) → HasAt edge_codec t (wid, uid) (Some target) → to ≡ place_of_number worlds target → record { from = from; uid = uid; to = to } ∷ [] ≡ edges_at states w uid
    unfolding edge_made
    one_edge_is target to has is =
        let f = edge_found (is_user b.catalog.users) ns wid uid target (edge_at (is_user b.catalog.users) ns wid uid w path ∙ sym (edge_is_read t b v wid uid w path user (Some target) has)) in
        let apart : is_suffix (uid ∷ []) w ≡ false = ap (is_suffix (uid ∷ [])) (same_some w f.front (sym path ∙ f.path)) ∙ f.apart in
        let end = place_of_end (w ++ uid ∷ []) target (end_is t b v wid uid target w path user has) in
        ap (λ n. edge_made n uid to ∷ []) place ∙ ap (λ n. edge_made (place_in path_cmp states w) uid n ∷ []) (is ∙ end)
        ∙ sym (cond-false (is_suffix (uid ∷ []) w) [] (record { from = place_in path_cmp states w; uid = uid; to = place_in path_cmp states (deepest_suffix (is_member path_cmp states) (w ++ uid ∷ [])) } ∷ []) apart)

-- ---- what the reads tell

link_made : List ℕ → Option ℕ → CanonWorld
link_made w s = record { path = w; suffix = s }

pub told_link : (t : Tables) (worlds : List NamedWorld) (x : NamedWorld) (found suffix : Option ℕ) (path : List ℕ) → HasAt link_codec t x.wid found → suffix ≡ option_map (place_of_number worlds) found → path ≡ x.path
    → TellsLink t worlds x (record { path = path; suffix = suffix })
unfolding link_made
told_link t worlds x found suffix path has is same b v are state =
    ap (λ s. link_made path s) (is ∙ link_is t b v worlds are x.wid x.path state found has) ∙ ap (λ w. link_made w (link_place (states_of b.stmts) x.path)) same

pub told_no_edge : (t : Tables) (worlds : List NamedWorld) (x : NamedWorld) (from uid : ℕ) → HasAt edge_codec t (x.wid, uid) None → TellsEdge t worlds x from uid None
told_no_edge t worlds x from uid has b v are state place user = no_edge_is t b v worlds are x.wid uid from x.path state user place has

pub told_edge : (t : Tables) (worlds : List NamedWorld) (x : NamedWorld) (from uid target to : ℕ) → HasAt edge_codec t (x.wid, uid) (Some target) → to ≡ place_of_number worlds target
    → TellsEdge t worlds x from uid (Some (record { from = from; uid = uid; to = to }))
told_edge t worlds x from uid target to has is b v are state place user = one_edge_is t b v worlds are x.wid uid from x.path state user place target to has is

-- ---- lists, one item more

pub flat_more : {X Y : Type 0} (f : X → List Y) (xs : List X) (k : ℕ) (d : X) → k < length xs → flat_map f (take (k + 1) xs) ≡ flat_map f (take k xs) ++ f (get_or xs k d)
flat_more f xs k d l = ap (flat_map f) (take_more xs k d l) ∙ flat_map-append f (take k xs) (get_or xs k d ∷ []) ∙ ap (λ ys. flat_map f (take k xs) ++ ys) (append-nil (f (get_or xs k d)))

map_more : {X Y : Type 0} (f : X → Y) (xs : List X) (k : ℕ) (d : X) → k < length xs → map f (take (k + 1) xs) ≡ map f (take k xs) ++ f (get_or xs k d) ∷ []
map_more f xs k d l = ap (map f) (take_more xs k d l) ∙ map-append f (take k xs) (get_or xs k d ∷ [])

-- ---- all links

-- the first states with their links
abbrev pub FirstLinks : ℕ → Tables → List CanonWorld → Type 0
FirstLinks k t xs = IsPartOf (λ b. map (world_entry (states_of b.stmts)) (take k (states_of b.stmts))) t xs

module _ (t : Tables) (worlds : List NamedWorld) (are : TellsStates t worlds) where
  pub links_begin : FirstLinks 0 t []
  links_begin b v = refl

  pub links_more : (k : ℕ) (x d : NamedWorld) (entry : CanonWorld) (now next : List CanonWorld) → k < length worlds → x ≡ get_or worlds k d → FirstLinks k t now → TellsLink t worlds x entry
      → next ≡ now ++ entry ∷ [] → FirstLinks (k + 1) t next
  links_more k x d entry now next l is first told made b v =
      let a = at_place t b v worlds (are b v) k x d l is in
      let states = states_of b.stmts in
      made ∙ ap (λ e. now ++ e ∷ []) (told b v (are b v) a.state ∙ ap (world_entry states) a.path) ∙ ap (λ xs. xs ++ world_entry states (get_or states k []) ∷ []) (first b v)
      ∙ sym (map_more (world_entry states) states k [] a.within)

  pub links_all : (k : ℕ) (xs : List CanonWorld) → length worlds ≤ k → FirstLinks k t xs → IsPartOf worlds_with_links t xs
  links_all k xs l first b v =
      let n = ap length (are b v) ∙ length-map (states_of b.stmts) _ in
      first b v ∙ ap (map (world_entry (states_of b.stmts))) (take_all k (states_of b.stmts) (omega arith))

-- ---- the edges of a state

module _ (t : Tables) (worlds : List NamedWorld) (x : NamedWorld) (from : ℕ) (uids : List ℕ) where
  pub edges_begin : TellsEdges t worlds x from (take 0 uids) []
  edges_begin b v are state place own = refl

  pub edges_more : (k : ℕ) (found : Option CanonEdge) (now next : List CanonEdge) → k < length uids → TellsEdges t worlds x from (take k uids) now → TellsEdge t worlds x from (get_or uids k 0) found
      → next ≡ now ++ with_item found [] → TellsEdges t worlds x from (take (k + 1) uids) next
  edges_more k found now next l told one is b v are state place own =
      let parts = users_less (is_user b.catalog.users) uids k l own in
      let states = states_of b.stmts in
      is ∙ ap (λ es. now ++ es) (one b v are state place parts.1) ∙ ap (λ es. es ++ edges_at states x.path (get_or uids k 0)) (told b v are state place parts.0)
      ∙ sym (flat_more (edges_at states x.path) uids k 0 l)

  pub edges_end : (k : ℕ) (found : List CanonEdge) → length uids ≤ k → TellsEdges t worlds x from (take k uids) found → TellsEdges t worlds x from uids found
  edges_end k found l told = subst (λ ks. TellsEdges t worlds x from ks found) (take_all k uids l) told

-- ---- all edges

-- the edges of the first states
abbrev pub FirstEdges : ℕ → Tables → List CanonEdge → Type 0
FirstEdges k t xs = IsPartOf (λ b. flat_map (edges_from (user_numbers b.catalog.users) (states_of b.stmts)) (take k (states_of b.stmts))) t xs

module _ (t : Tables) (worlds : List NamedWorld) (are : TellsStates t worlds) where
  pub all_edges_begin : FirstEdges 0 t []
  all_edges_begin b v = refl

  pub all_edges_more : (k : ℕ) (x d : NamedWorld) (from : ℕ) (uids : List ℕ) (more now next : List CanonEdge) → k < length worlds → x ≡ get_or worlds k d → from ≡ k
      → IsPartOf (λ b. user_numbers b.catalog.users) t uids → FirstEdges k t now → TellsEdges t worlds x from uids more → next ≡ now ++ more → FirstEdges (k + 1) t next
  all_edges_more k x d from uids more now next l is same own first told made b v =
      let a = at_place t b v worlds (are b v) k x d l is in
      let states = states_of b.stmts in
      let users = user_numbers b.catalog.users in
      made
      ∙ ap (λ es. now ++ es)
      (told b v (are b v) a.state (same ∙ a.place) (ap (list_all (is_user b.catalog.users)) (own b v) ∙ numbers_are_users b.catalog.users)
      ∙ ap (λ ks. edges_from ks states x.path) (own b v) ∙ ap (edges_from users states) a.path)
      ∙ ap (λ es. es ++ edges_from users states (get_or states k [])) (first b v)
      ∙ sym (flat_more (edges_from users states) states k [] a.within)

  pub all_edges : (k : ℕ) (xs : List CanonEdge) → length worlds ≤ k → FirstEdges k t xs → IsPartOf edges_of t xs
  all_edges k xs l first b v =
      let n = ap length (are b v) ∙ length-map (states_of b.stmts) _ in
      first b v ∙ ap (flat_map (edges_from (user_numbers b.catalog.users) (states_of b.stmts))) (take_all k (states_of b.stmts) (omega arith))
