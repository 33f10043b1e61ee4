-- What tables hold once a new state is written whole.
use Rattle.std.proofs.Common.{◌≡◌, ◌∙◌, ℕ, ◌<◌, ◌^◌, Bool, true, false, not, ◌&&◌, ◌||◌, nat_eq, cond, List, [], ◌∷◌, ◌++◌, refl, ap, sym, inl, inr, length, map, Option, Some, None}
use Rattle.std.specs.List.{AllByRecursion}
use Rattle.std.proofs.lemmas.Bool.{cases_Bool, and_parts, and_left, and_right, or_parts, or_left, or_right, false≢true, false_from_ne_true, cond-true, cond-false, not-true, eqb-true, eq-eqb}
use Rattle.bdb_base.specs.OrderLemmas.{is_eq_nat_cmp}
use Rattle.bdb_base.specs.Causes.{is_listed}
use Rattle.bdb_keep.specs.Tables.{Tables}
use Rattle.bdb_key.specs.Grammar.{IsNum}
use Rattle.bdb_tables.specs.InUse.{depth_codec, link_codec, linked_codec, edge_codec, led_codec}
use Rattle.bdb_tables.specs.InUseLaws.{numbers_in_order}
use Rattle.bdb_tables.specs.Names.{Names, path_of, is_named, are_once, with_name, depth_of, link_of, edge_of}
use Rattle.bdb_tables.specs.States.{TablesAre, HoldsStates}
use Rattle.bdb_tables.specs.Writes.{with_change, with_row_at}
use Rattle.bdb_tables.proofs.WriteLemmas.{change_gives, change_elsewhere, gives_same}
use Rattle.bdb_names.specs.Moves.{IsLeaf, edge_gains, link_gains, at_path, edge_moves, link_moves}
use Rattle.bdb_names.specs.Turned.{link_set, with_link, links_led, with_links, edge_set, with_edge, edges_led, with_edges, edges_made, look, state_made}
use Rattle.bdb_names.proofs.MoreLemmas.{depths_more, links_more, edges_more, names_more, own_more}
use Rattle.bdb_names.proofs.NameLemmas.{edge_at_none, link_at_none}
use Rattle.bdb_names.proofs.TurnedLemmas.{link_set_is, edge_set_is, tables_same}

abbrev no_number : Option ℕ
no_number = None

-- ---- links and edges that lead elsewhere

-- each number of a list is one of four bytes
abbrev pub AreNumbers : List ℕ → Type 0
AreNumbers ws = (w : ℕ) → is_listed w ws ≡ true → IsNum w

later : (w : ℕ) (ws : List ℕ) (k : ℕ) → is_listed k ws ≡ true → is_listed k (w ∷ ws) ≡ true
later w ws k h = or_right (nat_eq k w) (is_listed k ws) h

first : (w : ℕ) (ws : List ℕ) → is_listed w (w ∷ ws) ≡ true
first w ws = or_left (nat_eq w w) (is_listed w ws) (eq-eqb w w refl)

another : (w : ℕ) (ws : List ℕ) (k : ℕ) → not (is_listed w ws) ≡ true → is_listed k ws ≡ true → nat_eq k w ≡ false
another w ws k h e = false_from_ne_true (nat_eq k w) (λ t. false≢true (sym (not-true (is_listed w ws) h) ∙ ap (λ x. is_listed x ws) (sym (eqb-true k w t)) ∙ e))

pub links_join : (b c : Bool) (x y : Option ℕ) → cond c x (cond b x y) ≡ cond (b || c) x y
links_join true true x y = refl
links_join true false x y = refl
links_join false c x y = refl

pub links_led_are : (t : Tables) (d l : ℕ → Option ℕ) (e : ℕ × ℕ → Option ℕ) (s n : ℕ) → IsNum n → (ks : List ℕ) → AreNumbers ks → are_once ks ≡ true
    → ((k : ℕ) → is_listed k ks ≡ true → l k ≡ Some s) → TablesAre t d l e → TablesAre (links_led t s n ks) d (with_links l n ks) e
links_led_are t d l e s n size [] sizes once led h = h
links_led_are t d l e s n size (k ∷ ks) sizes once led h =
    let o = and_parts (not (is_listed k ks)) (are_once ks) once in
    let l1 = with_link l k (Some n) in
    tables_same (links_led t s n (k ∷ ks)) d (with_links l1 n ks) e d (with_links l n (k ∷ ks)) e (λ q. refl) (λ q. links_join (nat_eq q k) (is_listed q ks) (Some n) (l q)) (λ q. refl)
    (links_led_are (link_set t (Some s) (Some n) k) d l1 e s n size ks (λ w h. sizes w (later k ks w h)) o.1
    (λ q h. cond-false (nat_eq q k) (Some n) (l q) (another k ks q o.0 h) ∙ led q (later k ks q h))
    (link_set_is t d l e (Some s) (Some n) k (sizes k (first k ks)) size (led k (first k ks)) h))

edges_join : (a b c : Bool) (x y : Option ℕ) → cond (a && c) x (cond (b && a) x y) ≡ cond (a && (b || c)) x y
edges_join true true true x y = refl
edges_join true true false x y = refl
edges_join true false c x y = refl
edges_join false true c x y = refl
edges_join false false c x y = refl

pub edges_led_are : (t : Tables) (d l : ℕ → Option ℕ) (e : ℕ × ℕ → Option ℕ) (i s n : ℕ) → IsNum i → IsNum n → (ws : List ℕ) → AreNumbers ws → are_once ws ≡ true
    → ((w : ℕ) → is_listed w ws ≡ true → e (w, i) ≡ Some s) → TablesAre t d l e → TablesAre (edges_led t i s n ws) d l (with_edges e i n ws)
edges_led_are t d l e i s n user size [] sizes once led h =
    tables_same t d l e d l (with_edges e i n []) (λ q. refl) (λ q. refl) (λ q. sym (cond-false (nat_eq q.1 i && false) (Some n) (e q) (and_right (nat_eq q.1 i) false refl))) h
edges_led_are t d l e i s n user size (w ∷ ws) sizes once led h =
    let o = and_parts (not (is_listed w ws)) (are_once ws) once in
    let e1 = with_edge e (w, i) (Some n) in
    tables_same (edges_led t i s n (w ∷ ws)) d l (with_edges e1 i n ws) d l (with_edges e i n (w ∷ ws)) (λ q. refl) (λ q. refl)
    (λ q. edges_join (nat_eq q.1 i) (nat_eq q.0 w) (is_listed q.0 ws) (Some n) (e q))
    (edges_led_are (edge_set t (Some s) (Some n) (w, i)) d l e1 i s n user size ws (λ k h. sizes k (later w ws k h)) o.1
    (λ k h. cond-false (nat_eq k w && nat_eq i i) (Some n) (e (k, i)) (and_left (nat_eq k w) (nat_eq i i) (another w ws k o.0 h)) ∙ led k (later w ws k h))
    (edge_set_is t d l e (Some s) (Some n) (w, i) (record { first = sizes w (first w ws); second = user }) size (led w (first w ws)) h))

-- ---- a new state's own rows

-- a user and a world, as numbers of four bytes
abbrev pub IsOwnEdge : ℕ × ℕ → Type 0
IsOwnEdge x = IsNum x.0 × IsNum x.1

abbrev pub users_of : List (ℕ × ℕ) → List ℕ
users_of xs = map (λ x. x.0) xs

abbrev or_else : Option ℕ → Option ℕ → Option ℕ
or_else None o = o
or_else (Some x) o = Some x

look_none : (xs : List (ℕ × ℕ)) (j : ℕ) → is_listed j (users_of xs) ≡ false → look xs j ≡ None
look_none [] j h = refl
look_none (x ∷ xs) j h =
    let p = or_parts (nat_eq j x.0) (is_listed j (users_of xs)) h in
    cond-false (nat_eq j x.0) (Some x.1) (look xs j) p.0 ∙ look_none xs j p.1

-- edges where a world has these
abbrev with_made : (ℕ × ℕ → Option ℕ) → ℕ → List (ℕ × ℕ) → ℕ × ℕ → Option ℕ
with_made e n xs q = cond (nat_eq q.0 n) (or_else (look xs q.1) (e q)) (e q)

made_first : (b here : Bool) (x : ℕ) (rest o : Option ℕ) → (here ≡ true → rest ≡ None)
    → cond b (or_else rest (cond (b && here) (Some x) o)) (cond (b && here) (Some x) o) ≡ cond b (or_else (cond here (Some x) rest) o) o
made_first false here x rest o h = refl
made_first true true x rest o h = ap (λ r. or_else r (Some x)) (h refl)
made_first true false x rest o h = refl

pub edges_made_are : (t : Tables) (d l : ℕ → Option ℕ) (e : ℕ × ℕ → Option ℕ) (n : ℕ) → IsNum n → (xs : List (ℕ × ℕ)) → AllByRecursion IsOwnEdge xs → are_once (users_of xs) ≡ true
    → ((j : ℕ) → is_listed j (users_of xs) ≡ true → e (n, j) ≡ None) → TablesAre t d l e → TablesAre (edges_made t n xs) d l (with_made e n xs)
edges_made_are t d l e n size [] each once none h = tables_same t d l e d l (with_made e n []) (λ q. refl) (λ q. refl) (λ q. none_made (nat_eq q.0 n) (e q)) h
  where
    none_made : (b : Bool) (o : Option ℕ) → o ≡ cond b (or_else None o) o
    none_made true o = refl
    none_made false o = refl
edges_made_are t d l e n size (x ∷ xs) each once none h =
    let us = users_of xs in
    let o = and_parts (not (is_listed x.0 us)) (are_once us) once in
    let e1 = with_edge e (n, x.0) (Some x.1) in
    tables_same (edges_made t n (x ∷ xs)) d l (with_made e1 n xs) d l (with_made e n (x ∷ xs)) (λ q. refl) (λ q. refl)
    (λ q. made_first (nat_eq q.0 n) (nat_eq q.1 x.0) x.1 (look xs q.1) (e q)
    (λ t. look_none xs q.1 (ap (λ j. is_listed j us) (eqb-true q.1 x.0 t) ∙ not-true (is_listed x.0 us) o.0)))
    (edges_made_are (edge_set t None (Some x.1) (n, x.0)) d l e1 n size xs each.1 o.1
    (λ j k. cond-false (nat_eq n n && nat_eq j x.0) (Some x.1) (e (n, j)) (and_right (nat_eq n n) (nat_eq j x.0) (another x.0 us j o.0 k)) ∙ none j (later x.0 us j k))
    (edge_set_is t d l e None (Some x.1) (n, x.0) (record { first = size; second = each.0.0 }) each.0.1 (none x.0 (first x.0 us)) h))

pub state_made_is : (t : Tables) (d l : ℕ → Option ℕ) (e : ℕ × ℕ → Option ℕ) (n depth s : ℕ) → IsNum n → IsNum depth → IsNum s → l n ≡ None → TablesAre t d l e
    → TablesAre (state_made t n depth s) (with_link d n (Some depth)) (with_link l n (Some s)) e
state_made_is t d l e n depth s size deep to none h =
    link_set_is (with_change depth_codec t (n, Some depth)) (with_link d n (Some depth)) l e None (Some s) n size to none
    (record {
      depth = gives_same depth_codec _ (with_row_at depth_codec d (n, Some depth)) (with_link d n (Some depth)) (λ q _. ap (λ b. cond b (Some depth) (d q)) (is_eq_nat_cmp q n))
          (change_gives depth_codec numbers_in_order t d (n, Some depth) (record { key = size; row = deep }) h.depth);
      link = change_elsewhere link_codec depth_codec (λ x. cc) t l (n, Some depth) h.link;
      linked = change_elsewhere linked_codec depth_codec (λ x. cc) t _ (n, Some depth) h.linked;
      edge = change_elsewhere edge_codec depth_codec (λ x. cc) t e (n, Some depth) h.edge;
      led = change_elsewhere led_codec depth_codec (λ x. cc) t _ (n, Some depth) h.led;
    })

-- ---- the whole

module _ (users : ℕ → Bool) (ns : Names) (q : List ℕ) (i m s : ℕ) (leaf : IsLeaf users ns q i m s) (n : ℕ) (free : path_of ns n ≡ None) where
  abbrev p : List ℕ
  p = q ++ i ∷ []

  -- links and edges where those that move lead to the new world
  abbrev pub moved_links : ℕ → Option ℕ
  moved_links k = cond (link_moves ns q i k) (Some n) (link_of ns k)

  abbrev pub moved_edges : ℕ × ℕ → Option ℕ
  moved_edges k = cond (nat_eq k.1 i && edge_moves users ns q i k.0) (Some n) (edge_of users ns k)

  pub no_moved_link : moved_links n ≡ None
  no_moved_link = ap (λ o. cond (at_path (link_gains (is_named ns) p) o) (Some n) (link_of ns n)) free ∙ link_at_none ns n free

  pub no_moved_edge : (j : ℕ) → moved_edges (n, j) ≡ None
  no_moved_edge j =
      ap (λ o. cond (nat_eq j i && at_path (edge_gains users (is_named ns) p i) o) (Some n) (edge_of users ns (n, j))) free
      ∙ cond-false (nat_eq j i && false) (Some n) (edge_of users ns (n, j)) (and_right (nat_eq j i) false refl) ∙ edge_at_none users ns n j free

  -- A state is added once what moves leads to it, and its own rows are made.
  pub state_added : (t u : Tables) → HoldsStates users ns t → IsNum n → length p < 2 ^ 32 → length ns.used < 65536
      → TablesAre u (depth_of ns) moved_links moved_edges
      → (own : List (ℕ × ℕ)) → AllByRecursion IsOwnEdge own → are_once (users_of own) ≡ true → ((j : ℕ) → look own j ≡ cond (nat_eq j i) None (edge_of users ns (s, j)))
      → HoldsStates users (with_name ns n p) (state_made (edges_made u n own) n (length p) s)
  state_added t u h size short few moved own each once looks = record {
    names = names_more users ns q i m s leaf n free size short few;
    numbers = h.numbers;
    own = own_more users ns q i m s leaf n free h.own;
    tables = tables_same _ (with_link (depth_of ns) n (Some (length p))) (with_link moved_links n (Some s)) (with_made moved_edges n own) _ _ _
        (λ k. sym (depths_more users ns q i m s leaf n free k))
        (λ k. sym (links_more users ns q i m s leaf n free k))
        (λ k. edges_at k ∙ sym (edges_more users ns q i m s leaf n free k.0 k.1))
        (state_made_is (edges_made u n own) (depth_of ns) moved_links (with_made moved_edges n own) n (length p) s size short (leaf.names.sized _ s leaf.led) no_moved_link
        (edges_made_are u (depth_of ns) moved_links moved_edges n size own each once (λ j _. no_moved_edge j) moved));
  }
    where
      or_none : (o : Option ℕ) → or_else o None ≡ o
      or_none None = refl
      or_none (Some x) = refl

      edges_at : (k : ℕ × ℕ) → with_made moved_edges n own k ≡ cond (nat_eq k.0 n) (cond (nat_eq k.1 i) None (edge_of users ns (s, k.1))) (moved_edges k)
      edges_at k = elim (cases_Bool (nat_eq k.0 n)) [
        | inl t ↦
            let gone : moved_edges k ≡ None = ap (λ x. moved_edges (x, k.1)) (eqb-true k.0 n t) ∙ no_moved_edge k.1 in
            ap (λ b. cond b (or_else (look own k.1) (moved_edges k)) (moved_edges k)) t ∙ ap (or_else (look own k.1)) gone ∙ or_none (look own k.1) ∙ looks k.1
            ∙ sym (cond-true (nat_eq k.0 n) (cond (nat_eq k.1 i) no_number (edge_of users ns (s, k.1))) (moved_edges k) t)
        | inr f ↦ ap (λ b. cond b (or_else (look own k.1) (moved_edges k)) (moved_edges k)) f
            ∙ sym (cond-false (nat_eq k.0 n) (cond (nat_eq k.1 i) no_number (edge_of users ns (s, k.1))) (moved_edges k) f)
      ]
