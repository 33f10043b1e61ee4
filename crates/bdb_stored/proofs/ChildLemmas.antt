-- Where edges lead one user deeper.
use Rattle.std.proofs.Common.{◌≡◌, ◌∙◌, ℕ, ◌+◌, ◌<◌, ◌≤◌, Bool, true, false, List, [], ◌∷◌, ◌++◌, length, map, take, get_or, Option, Some, None, refl, ap, sym, subst, arith}
use Rattle.std.specs.List.{list_all}
use Rattle.std.specs.Option.{option_map, unwrap_or}
use Rattle.std.proofs.lemmas.Bool.{and_parts, false≢true, false_from_ne_true, cond-true, cond-false}
use Rattle.std.proofs.lemmas.List.{map-append, take_all, take_more}
use Rattle.std.proofs.lemmas.List.Folds.{list_all-append}
use Rattle.bdb_base.specs.Alternation.{alternates}
use Rattle.bdb_base.specs.Bases.{Contents, is_user}
use Rattle.bdb_base.specs.States.{deepest_suffix}
use Rattle.bdb_base.proofs.OptionLemmas.{none_is_some, same_some}
use Rattle.bdb_keep.specs.Tables.{Tables}
use Rattle.bdb_names.proofs.Ends.{length_more, no_own_end, whole_end}
use Rattle.bdb_names.proofs.NameLemmas.{deep_is_named, depth_at, edge_at, edge_found, edge_is, number_is}
use Rattle.bdb_paths.proofs.SuffixLemmas.{deepest_is_suffix, deepest_of_member}
use Rattle.bdb_tables.specs.Codec.{HasAt}
use Rattle.bdb_tables.specs.InUse.{depth_codec, edge_codec}
use Rattle.bdb_tables.specs.InUseLaws.{number_rows_are_one}
use Rattle.bdb_tables.specs.Names.{Names, path_of, number_of, is_named, depth_of, edge_from, edge_of}
use Rattle.bdb_tables.specs.States.{HoldsStates}
use Rattle.bdb_worlds.proofs.ReadLemmas.{found_is}
use Rattle.bdb_stored.specs.Items.{with_item, items_of}
use Rattle.bdb_stored.specs.Tree.{child_of}
use Rattle.bdb_catalog.specs.Bases.{StoresValid}
use Rattle.bdb_stored.specs.Worlds.{named_world, TellsChild, TellsChildren}
use Rattle.bdb_names.specs.declared.named.NamedWorld.{NamedWorld}

-- ---- one edge

abbrev pub made : ℕ → List ℕ → NamedWorld
made n w = record { wid = n; path = w }

module _ (t : Tables) (b : Contents) (v : StoresValid t b) where
  abbrev ns : Names
  ns = v.stored.names

  abbrev users : ℕ → Bool
  users = is_user b.catalog.users

  abbrev h : HoldsStates users ns t
  h = v.stored.stored.states

  -- what is read of the edge of a path's number is the path's edge
  pub edge_is_read : (wid uid : ℕ) (w : List ℕ) → path_of ns wid ≡ Some w → users uid ≡ true → (found : Option ℕ) → HasAt edge_codec t (wid, uid) found → found ≡ edge_from users ns uid w
  edge_is_read wid uid w e u found has =
      found_is edge_codec number_rows_are_one t (edge_of users ns) h.tables.edge (wid, uid) (record { first = h.names.sized w wid (h.names.named wid w e); second = h.numbers uid u }) found has
      ∙ edge_at users ns wid uid w e

  depth_is_read : (n : ℕ) (w : List ℕ) → path_of ns n ≡ Some w → (found : Option ℕ) → HasAt depth_codec t n found → found ≡ Some (length w)
  depth_is_read n w e found has = found_is depth_codec number_rows_are_one t (depth_of ns) h.tables.depth n (h.names.sized w n (h.names.named n w e)) found has ∙ depth_at ns n w e

  -- where a path's edge leads
  pub end_is : (wid uid target : ℕ) (w : List ℕ) → path_of ns wid ≡ Some w → users uid ≡ true → HasAt edge_codec t (wid, uid) (Some target) → number_of ns (deepest_suffix (is_named ns) (w ++ uid ∷ [])) ≡ Some target
  end_is wid uid target w e u has =
      let f = edge_found users ns wid uid target (edge_at users ns wid uid w e ∙ sym (edge_is_read wid uid w e u (Some target) has)) in
      ap (λ x. number_of ns (deepest_suffix (is_named ns) (x ++ uid ∷ []))) (same_some w f.front (sym e ∙ f.path)) ∙ f.target

  no_edge : (wid uid : ℕ) (w : List ℕ) → path_of ns wid ≡ Some w → users uid ≡ true → HasAt edge_codec t (wid, uid) None → is_named ns (w ++ uid ∷ []) ≡ false
  no_edge wid uid w e u has = false_from_ne_true (is_named ns (w ++ uid ∷ [])) (λ n.
      let apart = no_own_end w uid (h.names.apart (w ++ uid ∷ []) n) in
      let k = number_is ns (w ++ uid ∷ []) n in
      none_is_some k.0 (edge_is_read wid uid w e u None has ∙ edge_is users ns uid w u apart ∙ ap (number_of ns) (deepest_of_member (is_named ns) (w ++ uid ∷ []) n) ∙ k.1))

  end_depth : (wid uid target : ℕ) (w : List ℕ) → path_of ns wid ≡ Some w → users uid ≡ true → HasAt edge_codec t (wid, uid) (Some target) → (depth : Option ℕ) → HasAt depth_codec t target depth
      → depth ≡ Some (length (deepest_suffix (is_named ns) (w ++ uid ∷ [])))
  end_depth wid uid target w e u has depth at =
      let d = deepest_suffix (is_named ns) (w ++ uid ∷ []) in
      depth_is_read target d (h.names.numbered d target (end_is wid uid target w e u has)) depth at

  no_child : (w : List ℕ) (uid : ℕ) → is_named ns (w ++ uid ∷ []) ≡ false → None ≡ option_map (named_world ns) (child_of (is_named ns) w uid)
  no_child w uid f = sym (ap (option_map (named_world ns)) (cond-false (is_named ns (w ++ uid ∷ [])) (Some (w ++ uid ∷ [])) None f))

  one_child : (w : List ℕ) (uid target : ℕ) → is_named ns (w ++ uid ∷ []) ≡ true → number_of ns (w ++ uid ∷ []) ≡ Some target → Some (made target (w ++ uid ∷ [])) ≡ option_map (named_world ns) (child_of (is_named ns) w uid)
  one_child w uid target n e =
      ap (λ (o : Option ℕ). Some (made (unwrap_or o 0) (w ++ uid ∷ []))) (sym e)
      ∙ sym (ap (option_map (named_world ns)) (cond-true (is_named ns (w ++ uid ∷ [])) (Some (w ++ uid ∷ [])) None n))

-- ---- what the reads tell

module _ (t : Tables) (x : NamedWorld) (uid : ℕ) where
  pub told_no_edge : HasAt edge_codec t (x.wid, uid) None → TellsChild t x uid None
  told_no_edge has b v e u = no_child t b v x.path uid (no_edge t b v x.wid uid x.path e u has)

  pub told_no_path : alternates (x.path ++ uid ∷ []) ≡ false → TellsChild t x uid None
  told_no_path f b v e u =
      let n = v.stored.names in
      no_child t b v x.path uid (false_from_ne_true (is_named n (x.path ++ uid ∷ [])) (λ k. false≢true (sym f ∙ v.stored.stored.states.names.apart (x.path ++ uid ∷ []) k)))

  module _ (target : ℕ) (has : HasAt edge_codec t (x.wid, uid) (Some target)) where
    pub told_no_depth : HasAt depth_codec t target None → TellsChild t x uid None
    told_no_depth at b v e u = absurd (none_is_some _ (end_depth t b v x.wid uid target x.path e u has None at))

    pub told_no_deeper : (depth : ℕ) → HasAt depth_codec t target (Some depth) → (depth ≡ length x.path + 1 → ⊥) → TellsChild t x uid None
    told_no_deeper depth at other b v e u =
        let n = v.stored.names in
        no_child t b v x.path uid (false_from_ne_true (is_named n (x.path ++ uid ∷ [])) (λ k.
        let d = same_some depth _ (end_depth t b v x.wid uid target x.path e u has (Some depth) at) in
        let whole = ap length (deepest_of_member (is_named n) (x.path ++ uid ∷ []) k) in
        let l = length_more x.path uid in
        other (omega arith)))

    pub told_child : (depth : ℕ) (p : List ℕ) → HasAt depth_codec t target (Some depth) → depth ≡ length x.path + 1 → p ≡ x.path ++ uid ∷ [] → TellsChild t x uid (Some (made target p))
    told_child depth p at deep is b v e u =
        let n = v.stored.names in
        let names = v.stored.stored.states.names in
        let more = x.path ++ uid ∷ [] in
        let end = deepest_suffix (is_named n) more in
        let d = same_some depth (length end) (end_depth t b v x.wid uid target x.path e u has (Some depth) at) in
        let l = length_more x.path uid in
        let whole : end ≡ more = whole_end end more (deepest_is_suffix (is_named n) more) (omega arith) in
        ap (λ q. Some (made target q)) is
        ∙ one_child t b v x.path uid target (ap (is_named n) (sym whole) ∙ deep_is_named n names more) (ap (number_of n) (sym whole) ∙ end_is t b v x.wid uid target x.path e u has)

-- ---- all children

module _ {X : Type 0} where
  pub with_item_append : (o : Option X) (xs ys : List X) → with_item o (xs ++ ys) ≡ with_item o xs ++ ys
  with_item_append None xs ys = refl
  with_item_append (Some x) xs ys = refl

  pub items_push : (name : ℕ → Option X) (ks : List ℕ) (k : ℕ) → items_of name (ks ++ k ∷ []) ≡ items_of name ks ++ with_item (name k) []
  items_push name [] k = refl
  items_push name (j ∷ ks) k = ap (with_item (name j)) (items_push name ks k) ∙ with_item_append (name j) (items_of name ks) (with_item (name k) [])

map_item : {X Y : Type 0} (f : X → Y) (o : Option X) → map f (with_item o []) ≡ with_item (option_map f o) []
map_item f None = refl
map_item f (Some x) = refl

-- what all of some users and one more pass
pub users_less : (p : ℕ → Bool) (uids : List ℕ) (k : ℕ) → k < length uids → list_all p (take (k + 1) uids) ≡ true → (list_all p (take k uids) ≡ true) × (p (get_or uids k 0) ≡ true)
users_less p uids k l own =
    let both = and_parts (list_all p (take k uids)) (list_all p (get_or uids k 0 ∷ []))
    (sym (list_all-append p (take k uids) (get_or uids k 0 ∷ [])) ∙ ap (list_all p) (sym (take_more uids k 0 l)) ∙ own) in
    (both.0, (and_parts (p (get_or uids k 0)) true both.1).0)

module _ (t : Tables) (x : NamedWorld) (uids : List ℕ) where
  pub children_begin : TellsChildren t x (take 0 uids) []
  children_begin b v e own = refl

  pub children_more : (k : ℕ) (found : Option NamedWorld) (now next : List NamedWorld) → k < length uids → TellsChildren t x (take k uids) now → TellsChild t x (get_or uids k 0) found
      → next ≡ now ++ with_item found [] → TellsChildren t x (take (k + 1) uids) next
  children_more k found now next l told one is b v e own =
      let n = v.stored.names in
      let parts = users_less (is_user b.catalog.users) uids k l own in
      let child = child_of (is_named n) x.path in
      is ∙ ap (λ o. now ++ with_item o []) (one b v e parts.1) ∙ ap (λ xs. xs ++ with_item (option_map (named_world n) (child (get_or uids k 0))) []) (told b v e parts.0)
      ∙ ap (λ xs. map (named_world n) (items_of child (take k uids)) ++ xs) (sym (map_item (named_world n) (child (get_or uids k 0))))
      ∙ sym (map-append (named_world n) (items_of child (take k uids)) (with_item (child (get_or uids k 0)) []))
      ∙ ap (map (named_world n)) (sym (items_push child (take k uids) (get_or uids k 0)))
      ∙ ap (λ ks. map (named_world n) (items_of child ks)) (sym (take_more uids k 0 l))

  pub children_all : (k : ℕ) (found : List NamedWorld) → length uids ≤ k → TellsChildren t x (take k uids) found → TellsChildren t x uids found
  children_all k found l told = subst (λ ks. TellsChildren t x ks found) (take_all k uids l) told
