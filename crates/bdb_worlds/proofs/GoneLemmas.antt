-- What tables hold once a state is taken away.
use Rattle.std.proofs.Common.{◌≡◌, ◌∙◌, ℕ, Bool, true, false, not, ◌&&◌, ◌||◌, nat_eq, cond, List, [], ◌∷◌, ◌++◌, refl, ap, sym, subst, inl, inr, map, Option, Some, None}
use Rattle.std.specs.List.{AllByRecursion, list_any}
use Rattle.std.proofs.lemmas.Bool.{and_parts, and_from, and_right, or_cases, or_parts, or_left, or_right, false≢true, false_from_ne_true, cond-true, cond-false, not-true, eqb-true, eq-eqb, ne_eqb}
use Rattle.bdb_base.specs.Segments.{is_suffix}
use Rattle.bdb_base.specs.States.{deepest_suffix}
use Rattle.bdb_base.specs.OrderLemmas.{is_eq_nat_cmp}
use Rattle.bdb_base.proofs.OptionLemmas.{none_is_some, same_some}
use Rattle.bdb_base.specs.Causes.{is_listed}
use Rattle.bdb_paths.proofs.SuffixLemmas.{deepest_is_suffix}
use Rattle.bdb_keep.specs.Tables.{Tables}
use Rattle.bdb_key.specs.Grammar.{IsNum}
use Rattle.bdb_tables.specs.InUse.{IsPair, depth_codec, link_codec, linked_codec, edge_codec, led_codec}
use Rattle.bdb_tables.specs.InUseLaws.{numbers_in_order}
use Rattle.bdb_tables.specs.Names.{Names, path_of, number_of, is_named, are_once, leads_to, without_name, depth_of, link_of, edge_of}
use Rattle.bdb_tables.specs.States.{HoldsStates, TablesAre}
use Rattle.bdb_tables.specs.Writes.{with_row_at}
use Rattle.bdb_tables.proofs.WriteLemmas.{change_gives, change_elsewhere, gives_same}
use Rattle.bdb_tables.proofs.Held.{leads_is}
use Rattle.bdb_names.specs.Drops.{IsLast, led_past}
use Rattle.bdb_names.specs.Turned.{link_set, with_link, links_led, with_links, edge_set, same_edge, with_edge, look}
use Rattle.bdb_names.proofs.AddedLemmas.{links_led_are, links_join}
use Rattle.bdb_names.proofs.Ends.{more_is_end, ends_with}
use Rattle.bdb_names.proofs.LessLemmas.{depths_less, links_less, edges_less, names_less, own_less}
use Rattle.bdb_names.proofs.NameLemmas.{same_number, edge_found, link_found}
use Rattle.bdb_names.proofs.NamedLemmas.{cases_end}
use Rattle.bdb_names.proofs.TurnedLemmas.{link_set_is, edge_set_is, tables_same, same_edge_is}
use Rattle.bdb_worlds.specs.Dropping.{pairs_led, edges_dropped, state_dropped, pairs_of, kids_of, edges_in_rows, AreWorldRows, without_state, IsDroppedState, DropTakesState}
use Rattle.bdb_worlds.specs.Holding.{Worlds}
use Rattle.bdb_worlds.proofs.ReadLemmas.{link_read}
use Rattle.bdb_worlds.proofs.UnderLemmas.{is_pair, are_pairs_once, kids_are, kids_sized, kids_once, pairs_are, pairs_sized, pairs_once, edges_are, edges_sized, edges_once}

abbrev no_number : Option ℕ
no_number = None

-- ---- edges that lead elsewhere, by world and user

abbrev with_pairs : (ℕ × ℕ → Option ℕ) → ℕ → List (ℕ × ℕ) → ℕ × ℕ → Option ℕ
with_pairs e n ks q = cond (list_any (same_edge q) ks) (Some n) (e q)

pub same_edge_itself : (a : ℕ × ℕ) → same_edge a a ≡ true
same_edge_itself a = and_from (nat_eq a.0 a.0) (nat_eq a.1 a.1) (eq-eqb a.0 a.0 refl) (eq-eqb a.1 a.1 refl)

pairs_led_are : (t : Tables) (d l : ℕ → Option ℕ) (e : ℕ × ℕ → Option ℕ) (s n : ℕ) → IsNum n → (ks : List (ℕ × ℕ)) → AllByRecursion IsPair ks → are_pairs_once ks ≡ true
    → ((k : ℕ × ℕ) → list_any (same_edge k) ks ≡ true → e k ≡ Some s) → TablesAre t d l e → TablesAre (pairs_led t s n ks) d l (with_pairs e n ks)
pairs_led_are t d l e s n size [] sizes once led h = h
pairs_led_are t d l e s n size (k ∷ ks) sizes once led h =
    let o = and_parts (not (list_any (same_edge k) ks)) (are_pairs_once ks) once in
    let e1 = with_edge e k (Some n) in
    tables_same (pairs_led t s n (k ∷ ks)) d l (with_pairs e1 n ks) d l (with_pairs e n (k ∷ ks)) (λ q. refl) (λ q. refl) (λ q. links_join (same_edge q k) (list_any (same_edge q) ks) (Some n) (e q))
    (pairs_led_are (edge_set t (Some s) (Some n) k) d l e1 s n size ks sizes.1 o.1
    (λ q f. cond-false (same_edge q k) (Some n) (e q) (another q o.0 f) ∙ led q (or_right (same_edge q k) (list_any (same_edge q) ks) f))
    (edge_set_is t d l e (Some s) (Some n) k sizes.0 size (led k (or_left (same_edge k k) (list_any (same_edge k) ks) (same_edge_itself k))) h))
  where
    another : (q : ℕ × ℕ) → not (list_any (same_edge k) ks) ≡ true → list_any (same_edge q) ks ≡ true → same_edge q k ≡ false
    another q o f = false_from_ne_true (same_edge q k) (λ t. false≢true (sym (not-true (list_any (same_edge k) ks) o) ∙ ap (λ x. list_any (same_edge x) ks) (sym (same_edge_is q k t)) ∙ f))

-- ---- edges that go

abbrev users_of : List (ℕ × ℕ) → List ℕ
users_of xs = map (λ x. x.0) xs

abbrev with_dropped : (ℕ × ℕ → Option ℕ) → ℕ → List (ℕ × ℕ) → ℕ × ℕ → Option ℕ
with_dropped e n xs q = cond (nat_eq q.0 n && is_listed q.1 (users_of xs)) None (e q)

gone_join : (a b c : Bool) (y : Option ℕ) → cond (a && c) no_number (cond (a && b) no_number y) ≡ cond (a && (b || c)) no_number y
gone_join true true true y = refl
gone_join true true false y = refl
gone_join true false c y = refl
gone_join false b c y = refl

edges_dropped_are : (t : Tables) (d l : ℕ → Option ℕ) (e : ℕ × ℕ → Option ℕ) (n : ℕ) → IsNum n → (xs : List (ℕ × ℕ)) → AllByRecursion (λ x. IsNum x.0 × IsNum x.1) xs → are_once (users_of xs) ≡ true
    → AllByRecursion (λ x. e (n, x.0) ≡ Some x.1) xs → TablesAre t d l e → TablesAre (edges_dropped t n xs) d l (with_dropped e n xs)
edges_dropped_are t d l e n size [] sizes once there h =
    tables_same t d l e d l (with_dropped e n []) (λ q. refl) (λ q. refl) (λ q. sym (cond-false (nat_eq q.0 n && false) no_number (e q) (and_right (nat_eq q.0 n) false refl))) h
edges_dropped_are t d l e n size (x ∷ xs) sizes once there h =
    let o = and_parts (not (is_listed x.0 (users_of xs))) (are_once (users_of xs)) once in
    let e1 = with_edge e (n, x.0) None in
    tables_same (edges_dropped t n (x ∷ xs)) d l (with_dropped e1 n xs) d l (with_dropped e n (x ∷ xs)) (λ q. refl) (λ q. refl)
    (λ q. gone_join (nat_eq q.0 n) (nat_eq q.1 x.0) (is_listed q.1 (users_of xs)) (e q))
    (edges_dropped_are (edge_set t (Some x.1) None (n, x.0)) d l e1 n size xs sizes.1 o.1 (still xs (not-true (is_listed x.0 (users_of xs)) o.0) there.1)
    (edge_set_is t d l e (Some x.1) None (n, x.0) (record { first = size; second = sizes.0.0 }) tt there.0 h))
  where
    still : (ys : List (ℕ × ℕ)) → is_listed x.0 (users_of ys) ≡ false → AllByRecursion (λ y. e (n, y.0) ≡ Some y.1) ys → AllByRecursion (λ y. with_edge e (n, x.0) None (n, y.0) ≡ Some y.1) ys
    still [] f g = tt
    still (y ∷ ys) f g =
        let other : nat_eq y.0 x.0 ≡ false = ne_eqb y.0 x.0 (λ s. false≢true (sym f ∙ or_left (nat_eq x.0 y.0) (is_listed x.0 (users_of ys)) (eq-eqb x.0 y.0 (sym s)))) in
        let rest : is_listed x.0 (users_of ys) ≡ false = false_from_ne_true (is_listed x.0 (users_of ys)) (λ s. false≢true (sym f ∙ or_right (nat_eq x.0 y.0) (is_listed x.0 (users_of ys)) s)) in
        (cond-false (nat_eq n n && nat_eq y.0 x.0) None (e (n, y.0)) (and_right (nat_eq n n) (nat_eq y.0 x.0) other) ∙ g.0, still ys rest g.1)

-- without the depth and the link of a world
state_dropped_is : (t : Tables) (d l : ℕ → Option ℕ) (e : ℕ × ℕ → Option ℕ) (n s : ℕ) → IsNum n → l n ≡ Some s → TablesAre t d l e
    → TablesAre (state_dropped t n s) (with_link d n None) (with_link l n None) e
state_dropped_is t d l e n s size led h =
    let u = link_set t (Some s) None n in
    let k = link_set_is t d l e (Some s) None n size tt led h in
    record {
      depth = gives_same depth_codec _ (with_row_at depth_codec d (n, None)) (with_link d n None) (λ q _. ap (λ b. cond b None (d q)) (is_eq_nat_cmp q n))
          (change_gives depth_codec numbers_in_order u d (n, None) (record { key = size; row = tt }) k.depth);
      link = change_elsewhere link_codec depth_codec (λ x. cc) u _ (n, None) k.link;
      linked = change_elsewhere linked_codec depth_codec (λ x. cc) u _ (n, None) k.linked;
      edge = change_elsewhere edge_codec depth_codec (λ x. cc) u _ (n, None) k.edge;
      led = change_elsewhere led_codec depth_codec (λ x. cc) u _ (n, None) k.led;
    }

-- ---- the whole

look_listed : (xs : List (ℕ × ℕ)) (j : ℕ) → is_listed j (users_of xs) ≡ false → look xs j ≡ None
look_listed [] j h = refl
look_listed (x ∷ xs) j h =
    let p = or_parts (nat_eq j x.0) (is_listed j (users_of xs)) h in
    cond-false (nat_eq j x.0) (Some x.1) (look xs j) p.0 ∙ look_listed xs j p.1

-- each of a list's edges is found in it
pub looked : (xs : List (ℕ × ℕ)) → are_once (users_of xs) ≡ true → AllByRecursion (λ x. look xs x.0 ≡ Some x.1) xs
looked xs once = by xs (λ j x h. h) once
  where
    by : (ys : List (ℕ × ℕ)) → ((j x : ℕ) → look ys j ≡ Some x → look xs j ≡ Some x) → are_once (users_of ys) ≡ true → AllByRecursion (λ x. look xs x.0 ≡ Some x.1) ys
    by [] up o = tt
    by (y ∷ ys) up o =
        let p = and_parts (not (is_listed y.0 (users_of ys))) (are_once (users_of ys)) o in
        let none = look_listed ys y.0 (not-true (is_listed y.0 (users_of ys)) p.0) in (
          up y.0 y.1 (cond-true (nat_eq y.0 y.0) (Some y.1) (look ys y.0) (eq-eqb y.0 y.0 refl)),
          by ys (λ j x h. up j x (cond-false (nat_eq j y.0) (Some y.1) (look ys j)
              (ne_eqb j y.0 (λ s. none_is_some x (sym none ∙ ap (look ys) (sym s) ∙ h))) ∙ h)) p.1,
        )

module _ (w : Worlds) (t : Tables) (h : HoldsStates w.users w.names t) (p : List ℕ) (n s : ℕ) (gone : IsLast w.names p n s) where
  abbrev ms : Names
  ms = w.names

  size : IsNum n
  size = h.names.sized p n gone.number

  link_size : IsNum s
  link_size = let l = link_found ms n s gone.led in h.names.sized (deepest_suffix (is_named ms) l.back) s l.target

  -- no edge of the world leads to it
  pub not_itself : (j : ℕ) → edge_of w.users ms (n, j) ≡ Some n → ⊥
  not_itself j e =
      let f = edge_found w.users ms n j n e in
      let front : f.front ≡ p = same_some f.front p (sym f.path ∙ h.names.numbered p n gone.number) in
      let deep : deepest_suffix (is_named ms) (f.front ++ j ∷ []) ≡ p = same_number ms h.names _ p n f.target gone.number in
      let end : is_suffix p (p ++ j ∷ []) ≡ true =
      ap (λ x. is_suffix x (p ++ j ∷ [])) (sym deep) ∙ ap (λ x. is_suffix (deepest_suffix (is_named ms) (f.front ++ j ∷ [])) (x ++ j ∷ [])) (sym front) ∙ deepest_is_suffix (is_named ms) (f.front ++ j ∷ []) in
      elim (cases_end p) [
        | inl none ↦ gone.some none
        | inr u ↦
            let same = (more_is_end u.0 p u.1 j (ap (λ x. is_suffix x (p ++ j ∷ [])) (sym u.2) ∙ end)).0 in
            false≢true (sym f.apart ∙ ap (is_suffix (j ∷ [])) (front ∙ u.2) ∙ ap (λ x. is_suffix (j ∷ []) (u.0 ++ x ∷ [])) same ∙ ends_with u.0 (j ∷ []))
      ]

  module _ (led : List ((ℕ × ℕ × ℕ) × Unit {0})) (linked : List ((ℕ × ℕ) × Unit {0})) (own : List ((ℕ × ℕ) × ℕ)) (rows : AreWorldRows t n s led linked own) where
    abbrev es : List (ℕ × ℕ)
    es = pairs_of led

    abbrev ks : List ℕ
    ks = kids_of linked

    abbrev xs : List (ℕ × ℕ)
    xs = edges_in_rows own

    abbrev edge : ℕ × ℕ → Option ℕ
    edge = edge_of w.users ms

    abbrev link : ℕ → Option ℕ
    link = link_of ms

    in_led : (k : ℕ × ℕ) → IsPair k → is_pair k es ≡ leads_to (edge k) n
    in_led k f = pairs_are t n size edge h.tables.led led rows.led k f

    in_linked : (k : ℕ) → IsNum k → is_listed k ks ≡ leads_to (link k) n
    in_linked k f = kids_are t n size link h.tables.linked linked rows.linked k f

    pair_size : (ys : List (ℕ × ℕ)) → AllByRecursion IsPair ys → (k : ℕ × ℕ) → list_any (same_edge k) ys ≡ true → IsPair k
    pair_size [] f k e = absurd (false≢true e)
    pair_size (y ∷ ys) f k e = elim (or_cases (same_edge k y) (list_any (same_edge k) ys) e) [
      | inl t ↦ subst IsPair (sym (same_edge_is k y t)) f.0
      | inr r ↦ pair_size ys f.1 k r
    ]

    pub sizes : AllByRecursion IsPair es
    sizes = pairs_sized t n size led rows.led.each

    pub pairs_lead : (k : ℕ × ℕ) → list_any (same_edge k) es ≡ true → edge k ≡ Some n
    pairs_lead k e = leads_is (edge k) n (sym (in_led k (pair_size es sizes k e)) ∙ e)

    pub kids_lead : (k : ℕ) → is_listed k ks ≡ true → link k ≡ Some n
    kids_lead k e = leads_is (link k) n (sym (in_linked k (kids_sized t n size linked rows.linked.each k e)) ∙ e)

    abbrev u1 : Tables
    u1 = pairs_led t n s es

    abbrev u2 : Tables
    u2 = links_led u1 n s ks

    first : TablesAre u1 (depth_of ms) link (with_pairs edge s es)
    first = pairs_led_are t (depth_of ms) link edge n s link_size es sizes (pairs_once t n size led rows.led.each rows.led.sorted) pairs_lead h.tables

    second : TablesAre u2 (depth_of ms) (with_links link s ks) (with_pairs edge s es)
    second = links_led_are u1 (depth_of ms) link (with_pairs edge s es) n s link_size ks (kids_sized t n size linked rows.linked.each) (kids_once t n size linked rows.linked.each rows.linked.sorted) kids_lead first

    pub own_once : are_once (users_of xs) ≡ true
    own_once = edges_once t n size own rows.owned.each rows.owned.sorted

    pub own_sizes : AllByRecursion (λ x. IsNum x.0 × IsNum x.1) xs
    own_sizes = edges_sized t n size own rows.owned.each

    pub look_is : (j : ℕ) → IsNum j → look xs j ≡ edge (n, j)
    look_is j f = edges_are t n size edge h.tables.edge own rows.owned j f

    -- an edge of the world itself is none of those that lead to it
    own_stays : (j : ℕ) → IsNum j → with_pairs edge s es (n, j) ≡ edge (n, j)
    own_stays j f = cond-false (list_any (same_edge (n, j)) es) (Some s) (edge (n, j)) (in_led (n, j) (record { first = size; second = f }) ∙ false_from_ne_true (leads_to (edge (n, j)) n) (λ e. not_itself j (leads_is (edge (n, j)) n e)))

    own_there : (ys : List (ℕ × ℕ)) → AllByRecursion (λ x. IsNum x.0 × IsNum x.1) ys → AllByRecursion (λ x. look xs x.0 ≡ Some x.1) ys → AllByRecursion (λ x. with_pairs edge s es (n, x.0) ≡ Some x.1) ys
    own_there [] f g = tt
    own_there (y ∷ ys) f g = (own_stays y.0 f.0.0 ∙ sym (look_is y.0 f.0.0) ∙ g.0, own_there ys f.1 g.1)

    third : TablesAre (edges_dropped u2 n xs) (depth_of ms) (with_links link s ks) (with_dropped (with_pairs edge s es) n xs)
    third = edges_dropped_are u2 (depth_of ms) (with_links link s ks) (with_pairs edge s es) n size xs own_sizes own_once (own_there xs own_sizes (looked xs own_once)) second

    link_now : with_links link s ks n ≡ Some s
    link_now = by (is_listed n ks)
      where
        by : (b : Bool) → cond b (Some s) (link n) ≡ Some s
        by true = refl
        by false = gone.led

    fourth : TablesAre (without_state t n s es ks xs) (with_link (depth_of ms) n None) (with_link (with_links link s ks) n None) (with_dropped (with_pairs edge s es) n xs)
    fourth = state_dropped_is (edges_dropped u2 n xs) (depth_of ms) (with_links link s ks) (with_dropped (with_pairs edge s es) n xs) n s size link_now third

    -- keys that are no numbers of four bytes have neither links nor edges
    path_fits : (k : ℕ) (v : List ℕ) → path_of ms k ≡ Some v → IsNum k
    path_fits k v e = h.names.sized v k (h.names.named k v e)

    link_same : (k : ℕ) → IsNum k → with_link (with_links link s ks) n None k ≡ link_of (without_name ms n p) k
    link_same k f = ap (λ b. cond (nat_eq k n) None (cond b (Some s) (link k))) (in_linked k f) ∙ sym (links_less ms p n s gone k)

    edge_same : (k : ℕ × ℕ) → IsPair k → with_dropped (with_pairs edge s es) n xs k ≡ edge_of w.users (without_name ms n p) k
    edge_same k f = by (nat_eq k.0 n) refl ∙ sym (edges_less ms p n s gone w.users k.0 k.1)
      where
        past : with_pairs edge s es k ≡ led_past n s (edge k)
        past = ap (λ b. cond b (Some s) (edge k)) (in_led k f)

        own_gone : (b : Bool) → is_listed k.1 (users_of xs) ≡ b → k.0 ≡ n → cond b no_number (with_pairs edge s es k) ≡ None
        own_gone true e same = refl
        own_gone false e same =
            let none : edge (n, k.1) ≡ None = sym (look_is k.1 f.second) ∙ look_listed xs k.1 e in
            ap (λ m. with_pairs edge s es (m, k.1)) same ∙ own_stays k.1 f.second ∙ none

        by : (b : Bool) → nat_eq k.0 n ≡ b → with_dropped (with_pairs edge s es) n xs k ≡ cond (nat_eq k.0 n) None (led_past n s (edge k))
        by true e =
            ap (λ b. cond (b && is_listed k.1 (users_of xs)) no_number (with_pairs edge s es k)) e ∙ own_gone (is_listed k.1 (users_of xs)) refl (eqb-true k.0 n e)
            ∙ sym (cond-true (nat_eq k.0 n) None (led_past n s (edge k)) e)
        by false e =
            ap (λ b. cond (b && is_listed k.1 (users_of xs)) no_number (with_pairs edge s es k)) e ∙ past
            ∙ sym (cond-false (nat_eq k.0 n) None (led_past n s (edge k)) e)

    pub dropped_holds : HoldsStates w.users (without_name ms n p) (without_state t n s es ks xs)
    dropped_holds = record {
      names = names_less ms p n s gone;
      numbers = h.numbers;
      own = own_less ms p n s gone w.users h.own;
      tables = same_at (without_state t n s es ks xs) _ _ _ _ _ _ (λ k _. sym (depths_less ms p n s gone k)) link_same edge_same fourth;
    }
      where
        row_of : Bool → Option (Unit {0})
        row_of b = cond b (Some tt) None

        same_at : (u : Tables) (d l : ℕ → Option ℕ) (e : ℕ × ℕ → Option ℕ) (d' l' : ℕ → Option ℕ) (e' : ℕ × ℕ → Option ℕ)
            → ((k : ℕ) → IsNum k → d k ≡ d' k) → ((k : ℕ) → IsNum k → l k ≡ l' k) → ((k : ℕ × ℕ) → IsPair k → e k ≡ e' k) → TablesAre u d l e → TablesAre u d' l' e'
        same_at u d l e d' l' e' sd sl se x = record {
          depth = gives_same depth_codec u d d' sd x.depth;
          link = gives_same link_codec u l l' sl x.link;
          linked = gives_same linked_codec u _ _ (λ k f. ap (λ o. cond (leads_to o k.0) (Some tt) None) (sl k.1 f.second)) x.linked;
          edge = gives_same edge_codec u e e' se x.edge;
          led = gives_same led_codec u _ _ (λ k f. ap (λ o. cond (leads_to o k.0) (Some tt) None) (se (k.1, k.2) (record { first = f.second; second = f.third }))) x.led;
        }

-- whichever states the tables hold, a state that is the last on its way is taken away
pub state_is_gone : (w : Worlds) (t u : Tables) (n : ℕ) → HoldsStates w.users w.names t → IsDroppedState t u n → (p : List ℕ) → number_of w.names p ≡ Some n → (p ≡ [] → ⊥)
    → ((i : ℕ) → is_named w.names (p ++ i ∷ []) ≡ false) → HoldsStates w.users (without_name w.names n p) u
state_is_gone w t u n h x p number some last =
    let size = h.names.sized p n number in
    let gone : IsLast w.names p n x.link = record {
      names = h.names;
      number = number;
      some = some;
      last = last;
      led = sym (link_read t _ _ _ h.tables n size (Some x.link) x.rows.link);
    } in
    subst (HoldsStates w.users (without_name w.names n p)) (sym x.made) (dropped_holds w t h p n x.link gone x.led_rows x.linked_rows x.edge_rows x.rows)

pub drop_takes_state : DropTakesState
drop_takes_state users ns t u n p h x number some last = state_is_gone (record { users = users; names = ns }) t u n h x p number some last
