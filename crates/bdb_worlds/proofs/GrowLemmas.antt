-- One state more, and the prefixes of a path one after the other.
use Rattle.std.proofs.Common.{◌≡◌, ◌∙◌, ℕ, ◌+◌, ◌-◌, ◌≤◌, ◌<◌, ◌^◌, Bool, true, false, ◌&&◌, ◌||◌, nat_eq, cond, List, [], ◌∷◌, ◌++◌, refl, ap, sym, subst, inl, inr, suc, zero, arith, length, take, get_or, Option, Some, None}
use Rattle.std.specs.Option.{is_some, option_map}
use Rattle.std.specs.FinMap as tables
use Rattle.std.proofs.lemmas.Bool.{or_left, or_right, or_cases, or_from, false≢true, false_from_ne_true, cond-true, cases_lt}
use Rattle.bdb_base.specs.Alternation.{alternates}
use Rattle.bdb_base.specs.Same.{same_path}
use Rattle.bdb_base.specs.SameLemmas.{same_path-Decides}
use Rattle.bdb_base.specs.Segments.{is_prefix}
use Rattle.bdb_base.specs.States.{deepest_suffix}
use Rattle.bdb_base.proofs.BoolLemmas.{same_tests}
use Rattle.bdb_base.proofs.SegmentLemmas.{take_is_prefix}
use Rattle.bdb_base.specs.Causes.{is_listed}
use Rattle.bdb_keep.specs.Tables.{Tables}
use Rattle.bdb_key.specs.Bytes.{num_bytes}
use Rattle.bdb_key.specs.Grammar.{IsNum}
use Rattle.bdb_tables.specs.Codec.{HasAt, place}
use Rattle.bdb_tables.specs.InUse.{IsPair, edge_codec}
use Rattle.bdb_tables.specs.Names.{Names, path_of, number_of, is_named, with_name, depth_of, link_of, edge_of}
use Rattle.bdb_tables.specs.States.{HoldsStates, TablesAre}
use Rattle.bdb_tables.proofs.ListLemmas.{prefix_rest}
use Rattle.bdb_names.specs.Moves.{IsLeaf, AreMovers}
use Rattle.bdb_names.specs.Turned.{links_led, edges_led, with_links, with_edges}
use Rattle.bdb_names.proofs.AddedLemmas.{edges_led_are, links_led_are, moved_links, moved_edges, state_added}
use Rattle.bdb_names.proofs.Ends.{no_own_end, length_more}
use Rattle.bdb_names.proofs.MoveLemmas.{moved_edge_led, moved_link_led, edge_moves_parts, link_moves_parts}
use Rattle.bdb_names.proofs.NameLemmas.{is_named_by, deep_number, edge_at, edge_is}
use Rattle.bdb_names.proofs.TurnedLemmas.{tables_same}
use Rattle.bdb_worlds.specs.Free.{IsLeastFree, FindsFree}
use Rattle.bdb_worlds.specs.Growth.{IsAdded, with_state, with_prefixes, AreLeast, MayGrow, HasGrown, AddsStates}
use Rattle.bdb_worlds.specs.Holding.{Worlds}
use Rattle.bdb_worlds.specs.Owns.{AreOwnEdges}
use Rattle.bdb_worlds.specs.Reach.{Reaches, ReachesState}
use Rattle.bdb_worlds.proofs.ReadLemmas.{edge_read}
use Rattle.bdb_worlds.proofs.WalkLemmas.{take_next, all_at, alternates_take}

-- ---- one state more

-- a path that is to be a state: it stands at the edge of a state for a user, and is none yet
pub record IsNext (users : ℕ → Bool) (ns : Names) (q : List ℕ) (i m : ℕ) : Type 0 where
  pub start : number_of ns q ≡ Some m
  pub user : users i ≡ true
  pub apart : alternates (q ++ i ∷ []) ≡ true
  pub new : is_named ns (q ++ i ∷ []) ≡ false

module _ (s : Worlds) (t : Tables) (h : HoldsStates s.users s.names t) (q : List ℕ) (i m : ℕ) (is : IsNext s.users s.names q i m) where
  abbrev held : Names
  held = s.names

  edge_leads : edge_of s.users held (m, i) ≡ number_of held (deepest_suffix (is_named held) (q ++ i ∷ []))
  edge_leads = edge_at s.users held m i q (h.names.numbered q m is.start) ∙ edge_is s.users held i q is.user (no_own_end q i is.apart)

  key_fits : IsPair (m, i)
  key_fits = record { first = h.names.sized q m is.start; second = h.numbers i is.user }

  -- its edge has a row
  pub edge_has_row : is_some (tables.get t (place edge_codec (m, i))) ≡ true
  edge_has_row =
      let n = deep_number held h.names (q ++ i ∷ []) in
      ap is_some (h.tables.edge.rows (m, i) key_fits ∙ ap (option_map num_bytes) (edge_leads ∙ n.1))

  pub leaf_is : (from : ℕ) → HasAt edge_codec t (m, i) (Some from) → IsLeaf s.users held q i m from
  leaf_is from has = record {
    names = h.names;
    start = is.start;
    user = is.user;
    apart = is.apart;
    new = is.new;
    led = sym (edge_read t _ _ _ h.tables (m, i) key_fits (Some from) has ∙ edge_leads);
  }

  module _ (u : Tables) (depth number before now : ℕ) (added : IsAdded t u m i depth number before now) where
    leaf : IsLeaf s.users held q i m added.from
    leaf = leaf_is added.from added.taken.edge

    movers : AreMovers s.users held q i added.sources added.met
    movers = added.taken.movers s q h leaf

    own : AreOwnEdges s.users held added.from i added.own
    own = added.taken.edges s h

    source_size : (w : ℕ) → is_listed w added.sources ≡ true → IsNum w
    source_size w f = let e = edge_moves_parts s.users held q i m added.from leaf w (sym (movers.edges w) ∙ f) in h.names.sized e.front w (h.names.named w e.front e.path)

    met_size : (w : ℕ) → is_listed w added.met ≡ true → IsNum w
    met_size w f = let e = link_moves_parts s.users held q i m added.from leaf w (sym (movers.links w) ∙ f) in h.names.sized (e.first ∷ e.back) w (h.names.named w (e.first ∷ e.back) e.path)

    after_moves : IsNum number → TablesAre (links_led (edges_led t i added.from number added.sources) added.from number added.met)
        (depth_of held) (with_links (link_of held) number added.met) (with_edges (edge_of s.users held) i number added.sources)
    after_moves fits =
        links_led_are _ (depth_of held) (link_of held) (with_edges (edge_of s.users held) i number added.sources) added.from number fits added.met met_size movers.met_once
        (λ k f. moved_link_led s.users held q i m added.from leaf k (sym (movers.links k) ∙ f))
        (edges_led_are t (depth_of held) (link_of held) (edge_of s.users held) i added.from number (h.numbers i is.user) fits added.sources source_size movers.once
        (λ k f. moved_edge_led s.users held q i m added.from leaf k (sym (movers.edges k) ∙ f)) h.tables)

    pub added_holds : IsNum number → path_of held number ≡ None → depth ≡ length (q ++ i ∷ []) → depth < 2 ^ 32 → length held.used < 65536
        → HoldsStates s.users (with_name held number (q ++ i ∷ [])) u
    added_holds fits free deep short few =
        subst (HoldsStates s.users (with_name held number (q ++ i ∷ []))) (ap (λ k. with_state t i added.from added.sources added.met added.own number k) (sym deep) ∙ sym added.made)
        (state_added s.users held q i m added.from leaf number free t _ h fits (subst (λ k. k < 2 ^ 32) deep short) few
        (tables_same _ (depth_of held) (with_links (link_of held) number added.met) (with_edges (edge_of s.users held) i number added.sources)
        (depth_of held) (moved_links s.users held q i m added.from leaf number free) (moved_edges s.users held q i m added.from leaf number free)
        (λ k. refl)
        (λ k. ap (λ b. cond b (Some number) (link_of held k)) (movers.links k))
        (λ k. ap (λ b. cond (nat_eq k.1 i && b) (Some number) (edge_of s.users held k)) (movers.edges k.0))
        (after_moves fits))
        added.own own.sized own.once own.leads)

-- ---- prefixes, one more at the end

pub push_prefixes : (ns : Names) (path : List ℕ) (len : ℕ) (new : List ℕ) (n : ℕ)
    → with_prefixes ns path len (new ++ n ∷ []) ≡ with_name (with_prefixes ns path len new) n (take (suc (len + length new)) path)
push_prefixes ns path len [] n = let e : suc len ≡ suc (len + 0) = omega arith in ap (λ k. with_name ns n (take k path)) e
push_prefixes ns path len (m ∷ new) n =
    let e : suc (suc len + length new) ≡ suc (len + suc (length new)) = omega arith in
    push_prefixes (with_name ns m (take (suc len) path)) path (suc len) new n
    ∙ ap (λ k. with_name (with_prefixes (with_name ns m (take (suc len) path)) path (suc len) new) n (take k path)) e

push_least : (ns : Names) (path : List ℕ) (len : ℕ) (new : List ℕ) (n : ℕ) → AreLeast ns path len new → IsLeastFree (with_prefixes ns path len new) n → AreLeast ns path len (new ++ n ∷ [])
push_least ns path len [] n h l = (l, tt)
push_least ns path len (m ∷ new) n h l = (h.0, push_least (with_name ns m (take (suc len) path)) path (suc len) new n h.1 l)

pub length-take-is : (w : List ℕ) (k : ℕ) → k ≤ length w → length (take k w) ≡ k
length-take-is w zero l = refl
length-take-is [] (suc k) l = absurd (omega arith)
length-take-is (x ∷ w) (suc k) l = ap (λ n. suc n) (length-take-is w k (omega arith))

pub take_split : (w : List ℕ) (j k : ℕ) → j ≤ k → (r : List ℕ) × (take k w ≡ take j w ++ r)
take_split w zero k l = (take k w, refl)
take_split [] (suc j) zero l = ([], refl)
take_split [] (suc j) (suc k) l = ([], refl)
take_split (x ∷ w) (suc j) zero l = absurd (omega arith)
take_split (x ∷ w) (suc j) (suc k) l = let r = take_split w j k (omega arith) in (r.0, ap (λ (z : List ℕ). x ∷ z) r.1)

pub take_full : (w : List ℕ) (k : ℕ) → k ≡ length w → take k w ≡ w
take_full w k e = ap (λ n. take n w) e ∙ by w
  where
    by : (w : List ℕ) → take (length w) w ≡ w
    by [] = refl
    by (x ∷ w) = ap (λ (z : List ℕ). x ∷ z) (by w)

-- names with one more are those before, and the one
named_more : (ns : Names) (n : ℕ) (p w : List ℕ) → is_named (with_name ns n p) w ≡ (is_named ns w || same_path w p)
named_more ns n p w = by (same_path w p) (ns.number w)
  where
    by : (b : Bool) (o : Option ℕ) → is_some (cond b (Some n) o) ≡ (is_some o || b)
    by true o = sym (or_right (is_some o) true refl)
    by false None = refl
    by false (Some x) = refl

-- what has a name when prefixes have come had one before, or is a prefix
pub named_old : (ns : Names) (path : List ℕ) (len : ℕ) (new : List ℕ) (w : List ℕ) → is_named (with_prefixes ns path len new) w ≡ true → (is_named ns w || is_prefix w path) ≡ true
named_old ns path len [] w h = or_left (is_named ns w) (is_prefix w path) h
named_old ns path len (n ∷ new) w h =
    let p = take (suc len) path in
    elim (or_cases (is_named (with_name ns n p) w) (is_prefix w path) (named_old (with_name ns n p) path (suc len) new w h)) [
      | inr e ↦ or_right (is_named ns w) (is_prefix w path) e
      | inl e ↦ elim (or_cases (is_named ns w) (same_path w p) (sym (named_more ns n p w) ∙ e)) [
        | inl f ↦ or_left (is_named ns w) (is_prefix w path) f
        | inr f ↦ or_right (is_named ns w) (is_prefix w path) (ap (λ x. is_prefix x path) ((same_path-Decides w p).0 f) ∙ take_is_prefix path (suc len))
      ]
    ]

named_still : (ns : Names) (path : List ℕ) (len : ℕ) (new : List ℕ) (w : List ℕ) → is_named ns w ≡ true → is_named (with_prefixes ns path len new) w ≡ true
named_still ns path len [] w h = h
named_still ns path len (n ∷ new) w h =
    let p = take (suc len) path in
    named_still (with_name ns n p) path (suc len) new w (named_more ns n p w ∙ or_left (is_named ns w) (same_path w p) h)

-- ---- the loop

-- the prefixes up to here are states, and the next ones are none yet
pub record IsGrowing (s : Worlds) (u : Tables) (path : List ℕ) (worlds len : ℕ) (new : List ℕ) (at low : ℕ) : Type 0 where
  pub states : HoldsStates s.users (with_prefixes s.names path len new) u
  pub least : AreLeast s.names path len new
  pub number : number_of (with_prefixes s.names path len new) (take (len + length new) path) ≡ Some at
  pub used : length (with_prefixes s.names path len new).used ≡ worlds + length new
  pub fresh : (j : ℕ) → len + length new < j → j ≤ length path → is_named (with_prefixes s.names path len new) (take j path) ≡ false
  pub below : (k : ℕ) → k < low → is_some (path_of (with_prefixes s.names path len new) k) ≡ true
  pub before : length path ≤ len + (65536 - worlds)

abbrev pub Growing : Tables → Tables → List ℕ → ℕ → ℕ → List ℕ → ℕ → ℕ → Type 0
Growing t u path worlds len new at low = (s : Worlds) → MayGrow s t path worlds → IsGrowing s u path worlds len new at low

longer_is_new : (s : Worlds) (t : Tables) (h : HoldsStates s.users s.names t) (path : List ℕ) (j k : ℕ) → j ≤ k → is_named s.names (take j path) ≡ false → is_named s.names (take k path) ≡ false
longer_is_new s t h path j k l f = false_from_ne_true (is_named s.names (take k path)) (λ named.
    let r = take_split path j k l in
    false≢true (sym f ∙ h.names.prefixes (take j path) r.0 (ap (is_named s.names) (sym r.1) ∙ named)))

pub growing_begins : (t : Tables) (path : List ℕ) (worlds len wid : ℕ) (new : List ℕ) → new ≡ [] → ReachesState t path len wid → Growing t t path worlds len new wid 0
growing_begins t path worlds len wid new none reached s g = subst (λ x. IsGrowing s t path worlds len x wid 0) (sym none) begins
  where
    here : Reaches s path len wid
    here = reached s g.states g.own

    stands_within : g.stands ≤ len
    stands_within = elim (cases_lt len g.stands) [
      | inr ge ↦ ge
      | inl lt ↦
          let w = g.within in
          absurd (false≢true (sym (longer_is_new s t g.states path (suc len) g.stands (omega arith) (here.longest (omega arith))) ∙ g.named))
    ]

    begins : IsGrowing s t path worlds len [] wid 0
    begins = record {
      states = g.states;
      least = tt;
      number = let e : len + 0 ≡ len = omega arith in ap (λ k. number_of s.names (take k path)) e ∙ here.number;
      used = let e : worlds ≡ worlds + 0 = omega arith in g.count ∙ e;
      fresh = λ j l m. longer_is_new s t g.states path (suc len) j (omega arith) (here.longest (omega arith));
      below = λ k l. absurd (none_below k l);
      before = let w = stands_within in let r = g.room in let i = here.within in let n = g.within in omega arith;
    }
      where
        none_below : (k : ℕ) → k < 0 → ⊥
        none_below k l = absurd (omega arith)

module _ (t u : Tables) (path : List ℕ) (worlds len : ℕ) (new : List ℕ) (at low k : ℕ) (is : k ≡ len + length new) (apart : alternates path ≡ true) (inside : k < length path) (growing : Growing t u path worlds len new at low) where
  abbrev q : List ℕ
  q = take k path

  abbrev i : ℕ
  i = get_or path k 0

  part : take (k + 1) path ≡ q ++ i ∷ []
  part = take_next path k inside

  module _ (s : Worlds) (g : MayGrow s t path worlds) where
    now : IsGrowing s u path worlds len new at low
    now = growing s g

    abbrev ms : Names
    ms = with_prefixes s.names path len new

    abbrev ws : Worlds
    ws = record { users = s.users; names = with_prefixes s.names path len new }

    pub next_is : IsNext s.users ms q i at
    next_is = record {
      start = ap (λ n. number_of ms (take n path)) is ∙ now.number;
      user = all_at s.users path k inside g.own;
      apart = ap alternates (sym part) ∙ alternates_take path (k + 1) apart;
      new = ap (is_named ms) (sym part) ∙ now.fresh (k + 1) (omega arith) (omega arith);
    }

    pub has_edge : is_some (tables.get u (place edge_codec (at, i))) ≡ true
    has_edge = edge_has_row ws u now.states q i at next_is

    pub is_room : worlds + length new < 65536
    is_room = let b = now.before in omega arith

    module _ (count depth number before after : ℕ) (u' : Tables) (count_is : count ≡ worlds + length new) (deep : depth ≡ k + 1) (free : FindsFree u count low number) (added : IsAdded u u' at i depth number before after) where
      pub found_is : IsLeastFree ms number
      found_is = free.least ws now.states (now.used ∙ sym count_is) now.below

      long : length (q ++ i ∷ []) ≡ k + 1
      long = ap length (sym part) ∙ length-take-is path (k + 1) (omega arith)

      pub holds_now : HoldsStates s.users (with_name ms number (q ++ i ∷ [])) u'
      holds_now =
          let small = g.short in
          let room = is_room in
          added_holds ws u now.states q i at next_is u' depth number before after added free.fits found_is.free (deep ∙ sym long) (omega arith)
          (let e = now.used in omega arith)

      last : take (suc (len + length new)) path ≡ q ++ i ∷ []
      last = let e : suc (len + length new) ≡ k + 1 = omega arith in ap (λ n. take n path) e ∙ part

      pub names_now : with_prefixes s.names path len (new ++ number ∷ []) ≡ with_name ms number (q ++ i ∷ [])
      names_now = push_prefixes s.names path len new number ∙ ap (with_name ms number) last

      path_there : (j : ℕ) (b : Bool) (o : Option (List ℕ)) → is_some o ≡ true → is_some (cond b (Some (q ++ i ∷ [])) o) ≡ true
      path_there j true o e = refl
      path_there j false o e = e

      pub grown : IsGrowing s u' path worlds len (new ++ number ∷ []) number number
      grown = record {
        states = subst (λ x. HoldsStates s.users x u') (sym names_now) holds_now;
        least = push_least s.names path len new number now.least found_is;
        number =
            let e : len + length (new ++ number ∷ []) ≡ suc (len + length new) = ap (λ n. len + n) (length_more new number) ∙ omega arith in
            ap (λ x. number_of x (take (len + length (new ++ number ∷ [])) path)) names_now
            ∙ ap (λ n. number_of (with_name ms number (q ++ i ∷ [])) (take n path)) e
            ∙ ap (number_of (with_name ms number (q ++ i ∷ []))) last
            ∙ cond-true (same_path (q ++ i ∷ []) (q ++ i ∷ [])) (Some number) (number_of ms (q ++ i ∷ [])) ((same_path-Decides (q ++ i ∷ []) (q ++ i ∷ [])).1 refl);
        used =
            let e = length_more new number in
            let f = now.used in
            let l : suc (length ms.used) ≡ worlds + length (new ++ number ∷ []) = omega arith in
            ap (λ (x : Names). length x.used) names_now ∙ l;
        fresh = λ j l m.
            let e = length_more new number in
            let w = length-take-is path j m in
            let differs : same_path (take j path) (q ++ i ∷ []) ≡ false = false_from_ne_true (same_path (take j path) (q ++ i ∷ [])) (λ t.
            let x = ap length ((same_path-Decides (take j path) (q ++ i ∷ [])).0 t) in let y = long in absurd (omega arith)) in
            ap (λ x. is_named x (take j path)) names_now ∙ named_more ms number (q ++ i ∷ []) (take j path)
            ∙ or_from (is_named ms (take j path)) (same_path (take j path) (q ++ i ∷ [])) (now.fresh j (omega arith) m) differs;
        below = λ j l. ap (λ x. is_some (path_of x j)) names_now ∙ path_there j (nat_eq j number) (path_of ms j) (found_is.least j l);
        before = now.before;
      }

  pub growing_more : (count depth number before after : ℕ) (u' : Tables) → count ≡ worlds + length new → depth ≡ k + 1 → FindsFree u count low number → IsAdded u u' at i depth number before after
      → (more : List ℕ) → more ≡ new ++ number ∷ [] → Growing t u' path worlds len more number number
  growing_more count depth number before after u' e d free added more m s g =
      subst (λ x. IsGrowing s u' path worlds len x number number) (sym m) (grown s g count depth number before after u' e d free added)

module _ (s : Worlds) (u : Tables) (path : List ℕ) (worlds len : ℕ) (new : List ℕ) (at low : ℕ) (now : IsGrowing s u path worlds len new at low) (whole : len + length new ≡ length path) where
  abbrev all : Names
  all = with_prefixes s.names path len new

  whole_named : is_named all path ≡ true
  whole_named = ap (is_named all) (sym (take_full path (len + length new) whole)) ∙ is_named_by all (take (len + length new) path) at now.number

  grown_whole : HasGrown s u path new
  grown_whole = record {
    stood = len;
    whole = whole;
    states = now.states;
    least = now.least;
    paths = λ w. same_tests (is_named all w) (is_named s.names w || is_prefix w path) (named_old s.names path len new w)
        (λ h. elim (or_cases (is_named s.names w) (is_prefix w path) h) [
          | inl a ↦ named_still s.names path len new w a
          | inr b ↦
              let r = prefix_rest w path b in
              now.states.names.prefixes w r.0 (ap (is_named all) (sym r.1) ∙ whole_named)
        ]);
  }

pub growing_ends : (t u : Tables) (path : List ℕ) (worlds len : ℕ) (new : List ℕ) (at low : ℕ) → len + length new ≡ length path → Growing t u path worlds len new at low → AddsStates t u path worlds new
growing_ends t u path worlds len new at low whole growing s g = grown_whole s u path worlds len new at low (growing s g) whole

-- ---- tables that are the same

pub growing_at : (t u v : Tables) (path : List ℕ) (worlds len : ℕ) (new : List ℕ) (at low : ℕ) → v ≡ u → Growing t u path worlds len new at low → Growing t v path worlds len new at low
growing_at t u v path worlds len new at low e h = subst (λ x. Growing t x path worlds len new at low) (sym e) h

pub added_at : (t u v : Tables) (start uid depth number before now : ℕ) → u ≡ t → IsAdded u v start uid depth number before now → IsAdded t v start uid depth number before now
added_at t u v start uid depth number before now e h = subst (λ x. IsAdded x v start uid depth number before now) e h
