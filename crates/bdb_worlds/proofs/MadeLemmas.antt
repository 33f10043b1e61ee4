-- What is written for the states that come, and at how many places rows differ for it.
use Rattle.std.proofs.Common.{◌≡◌, ◌≢◌, ◌∙◌, ℕ, ◌+◌, ◌*◌, ◌≤◌, ◌<◌, Bool, true, false, not, ◌&&◌, ◌||◌, nat_eq, cond, List, [], ◌∷◌, ◌++◌, refl, ap, sym, subst, inl, inr, suc, arith, length, map, take, get_or, Option, Some, None}
use Rattle.std.specs.List.{AllByRecursion, list_any}
use Rattle.std.specs.Option.{option_map}
use Rattle.std.specs.FinMap as tables
use Rattle.std.proofs.lemmas.Bool.{and_parts, and_from, or_cases, or_left, or_right, false≢true, false_from_ne_true, cond-true, cond-false, eqb-true, eq-eqb, ne_eqb, eqb-false, cases_lt}
use Rattle.bdb_base.specs.Alternation.{alternates}
use Rattle.bdb_base.specs.Causes.{Rises, is_listed}
use Rattle.bdb_base.specs.Same.{same_path}
use Rattle.bdb_base.specs.SameLemmas.{same_path-Decides}
use Rattle.bdb_base.specs.Segments.{is_prefix}
use Rattle.bdb_base.proofs.OptionLemmas.{none_is_some, same_some}
use Rattle.bdb_base.proofs.SegmentLemmas.{prefix_is_take, length-prefix, length-suffix}
use Rattle.bdb_keep.specs.Seen.{Seen}
use Rattle.bdb_keep.specs.Tables.{Tables}
use Rattle.bdb_tables.specs.Differences.{AreDifferences}
use Rattle.bdb_tables.specs.Names.{Names, AreNames, path_of, number_of, is_named, are_once, with_name, depth_of, link_of, edge_of}
use Rattle.bdb_tables.specs.States.{HoldsStates}
use Rattle.bdb_names.specs.Moves.{IsLeaf, AreMovers, edge_moves, link_moves}
use Rattle.bdb_names.specs.Turned.{same_edge, look}
use Rattle.bdb_names.proofs.Ends.{whole_end, length_more, more_is_end}
use Rattle.bdb_names.proofs.MoreLemmas.{links_more, edges_more}
use Rattle.bdb_names.proofs.MoveLemmas.{edge_moves_parts, link_moves_parts}
use Rattle.bdb_names.proofs.NameLemmas.{number_is, is_named_by, link_found, link_at_none, edge_found, edge_at_none}
use Rattle.bdb_worlds.specs.Bounds.{EndsWithin, WritesWithin}
use Rattle.bdb_worlds.specs.Free.{FindsFree}
use Rattle.bdb_worlds.specs.Growth.{IsAdded, MayGrow, SomeMayGrow, with_prefixes, state_writes}
use Rattle.bdb_worlds.specs.Holding.{Worlds}
use Rattle.bdb_worlds.specs.Owns.{AreOwnEdges}
use Rattle.bdb_worlds.proofs.CostLemmas.{Spot, at_depth, at_link, at_linked, at_edge, at_led, Apart, all_append, apart_append, all_map, sum_of, sum_append, Costs, costs_within, link_moved, edge_moved, comes, weight, depth_weighs, link_weighs, edge_weighs}
use Rattle.bdb_worlds.proofs.GoneLemmas.{looked}
use Rattle.bdb_worlds.proofs.GrowLemmas.{Growing, next_is, found_is, holds_now, names_now, leaf_is, named_old, length-take-is}
use Rattle.bdb_worlds.proofs.PartLemmas.{IsPart, part_path, link_between, edge_between, edge_there, link_there, edge_target_named, link_target_named}
use Rattle.bdb_worlds.proofs.SpentLemmas.{edges_less, links_at, less_all, links_all, moved_apart, moved_sum, own_spots, own_apart, own_weighs, own_world, world_of, edges_all, small_sum, next_moves}
use Rattle.bdb_worlds.proofs.UnderLemmas.{are_pairs_once}

-- ---- edges for one user

-- the edges of worlds for a user
abbrev pairs_at : ℕ → List ℕ → List (ℕ × ℕ)
pairs_at i ks = map (λ k. (k, i)) ks

pair_listed : (i k : ℕ) (ks : List ℕ) → list_any (same_edge (k, i)) (pairs_at i ks) ≡ is_listed k ks
pair_listed i k [] = refl
pair_listed i k (x ∷ ks) = ap (λ b. b || list_any (same_edge (k, i)) (pairs_at i ks)) (same (nat_eq k x)) ∙ ap (λ b. nat_eq k x || b) (pair_listed i k ks)
  where
    same : (b : Bool) → (b && nat_eq i i) ≡ b
    same true = eq-eqb i i refl
    same false = refl

pairs_at_once : (i : ℕ) (ks : List ℕ) → are_once ks ≡ true → are_pairs_once (pairs_at i ks) ≡ true
pairs_at_once i [] e = refl
pairs_at_once i (k ∷ ks) e =
    let p = and_parts (not (is_listed k ks)) (are_once ks) e in
    and_from (not (list_any (same_edge (k, i)) (pairs_at i ks))) (are_pairs_once (pairs_at i ks)) (ap not (pair_listed i k ks) ∙ p.0) (pairs_at_once i ks p.1)

pair_parts : (i : ℕ) (ks : List ℕ) (e : ℕ × ℕ) → list_any (same_edge e) (pairs_at i ks) ≡ true → (is_listed e.0 ks ≡ true) × (e.1 ≡ i)
pair_parts i [] e h = absurd (false≢true h)
pair_parts i (k ∷ ks) e h = elim (or_cases (same_edge e (k, i)) (list_any (same_edge e) (pairs_at i ks)) h) [
  | inl a ↦ let p = and_parts (nat_eq e.0 k) (nat_eq e.1 i) a in (or_left (nat_eq e.0 k) (is_listed e.0 ks) p.0, eqb-true e.1 i p.1)
  | inr b ↦ let p = pair_parts i ks e b in (or_right (nat_eq e.0 k) (is_listed e.0 ks) p.0, p.1)
]

length-pairs : (i : ℕ) (ks : List ℕ) → length (pairs_at i ks) ≡ length ks
length-pairs i [] = refl
length-pairs i (k ∷ ks) = ap (λ n. suc n) (length-pairs i ks)

-- ---- the states that come

-- a depth, a link or an edge is there, and its world has come
abbrev pub IsCome : (ℕ → Bool) → Names → Names → Spot → Type 0
IsCome users ns ms (at_depth n) = (w : List ℕ) × (path_of ms n ≡ Some w) × (path_of ns n ≡ None)
IsCome users ns ms (at_link n) = (x : ℕ) × (link_of ms n ≡ Some x) × (path_of ns n ≡ None)
IsCome users ns ms (at_edge n j) = (x : ℕ) × (edge_of users ms (n, j) ≡ Some x) × (path_of ns n ≡ None)
IsCome users ns ms (at_linked a n) = ⊥
IsCome users ns ms (at_led a n j) = ⊥

-- so much is written, and for so many rows that differ whatever more comes
pub record IsMade (s : Worlds) (t : Tables) (ns : Names) (steps before now : ℕ) : Type 0 where
  pub moves : ℕ
  pub own : List Spot
  pub count : EndsWithin (moves + (sum_of weight own + 3 * steps)) before now
  pub many : 3 * steps ≤ sum_of weight own
  pub apart : Apart own
  pub come : AllByRecursion (IsCome s.users s.names ns) own
  pub part : IsPart s.names ns
  pub later : (ms : Names) (v : Tables) → IsPart ns ms → HoldsStates s.users ms v → (ps : List (List ℕ)) → AreDifferences (tables.get t) (tables.get v) ps → moves ≤ steps * length ps

pub made_none : (s : Worlds) (t : Tables) (before now : ℕ) → now ≡ before → IsMade s t s.names 0 before now
made_none s t before now e = record {
  moves = 0;
  own = [];
  count = λ l. omega arith;
  many = omega arith;
  apart = tt;
  come = tt;
  part = λ w n h. h;
  later = λ ms v part held ps d. omega arith;
}

come_world : (users : ℕ → Bool) (ns ms : Names) (r : Spot) → IsCome users ns ms r → (w : List ℕ) × (path_of ms (world_of r) ≡ Some w)
come_world users ns ms (at_depth n) g = (g.0, g.1)
come_world users ns ms (at_link n) g = let l = link_found ms n g.0 g.1 in (l.first ∷ l.back, l.path)
come_world users ns ms (at_edge n j) g = let l = edge_found users ms n j g.0 g.1 in (l.front, l.path)
come_world users ns ms (at_linked a n) g = absurd g
come_world users ns ms (at_led a n j) g = absurd g

come_still : (users : ℕ → Bool) (ns ms more : Names) → AreNames ms → AreNames more → IsPart ms more → (r : Spot) → IsCome users ns ms r → IsCome users ns more r
come_still users ns ms more a b part (at_depth n) g = (g.0, part_path ms more a b part n g.0 g.1, g.2)
come_still users ns ms more a b part (at_link n) g =
    let l = link_found ms n g.0 g.1 in
    let x = link_there more b n l.first l.back (part_path ms more a b part n (l.first ∷ l.back) l.path) in
    (x.0, x.1, g.2)
come_still users ns ms more a b part (at_edge n j) g =
    let l = edge_found users ms n j g.0 g.1 in
    let x = edge_there users more b n j l.front (part_path ms more a b part n l.front l.path) l.user l.apart in
    (x.0, x.1, g.2)
come_still users ns ms more a b part (at_linked x n) g = absurd g
come_still users ns ms more a b part (at_led x n j) g = absurd g

module _ (s : Worlds) (t : Tables) (h : HoldsStates s.users s.names t) where
  -- rows of worlds that have come differ
  come_weighs : (ms : Names) (v : Tables) → (hv : HoldsStates s.users ms v) → (r : Spot) → IsCome s.users s.names ms r
      → Costs t v (depth_of s.names) (link_of s.names) (edge_of s.users s.names) (depth_of ms) (link_of ms) (edge_of s.users ms) h.tables hv.tables weight r
  come_weighs ms v hv (at_depth n) g =
      depth_weighs t v _ _ _ _ _ _ h.tables hv.tables n (hv.names.sized g.0 n (hv.names.named n g.0 g.1))
      (comes (length g.0) (ap (option_map (λ w. length w)) g.2) (ap (option_map (λ w. length w)) g.1))
  come_weighs ms v hv (at_link n) g =
      let l = link_found ms n g.0 g.1 in
      link_weighs t v _ _ _ _ _ _ h.tables hv.tables n (hv.names.sized (l.first ∷ l.back) n (hv.names.named n (l.first ∷ l.back) l.path)) (comes g.0 (link_at_none s.names n g.2) g.1)
  come_weighs ms v hv (at_edge n j) g =
      let l = edge_found s.users ms n j g.0 g.1 in
      edge_weighs t v _ _ _ _ _ _ h.tables hv.tables n j (hv.names.sized l.front n (hv.names.named n l.front l.path)) (h.numbers j l.user) (comes g.0 (edge_at_none s.users s.names n j g.2) g.1)
  come_weighs ms v hv (at_linked a n) g = absurd g
  come_weighs ms v hv (at_led a n j) g = absurd g

  -- what is written in all
  pub made_all : (ns : Names) (u : Tables) (steps d before now : ℕ) → HoldsStates s.users ns u → steps ≤ d → IsMade s t ns steps before now
      → (ps : List (List ℕ)) → AreDifferences (tables.get t) (tables.get u) ps → EndsWithin ((d + 2) * length ps) before now
  made_all ns u steps d before now hu le made ps diff small =
      let a = made.later ns u (λ w n e. e) hu ps diff in
      let b = costs_within t u _ _ _ _ _ _ h.tables hu.tables weight made.own made.apart
      (all_map (IsCome s.users s.names ns) (Costs t u _ _ _ _ _ _ h.tables hu.tables weight) made.own (come_weighs ns u hu) made.come) ps diff in
      let c = small_sum steps d made.moves (sum_of weight made.own) (length ps) le a b made.many in
      let e = made.count small in
      omega (arith, c, e)

-- one state more comes
module _ (s : Worlds) (t : Tables) (h : HoldsStates s.users s.names t) (ns : Names) (q : List ℕ) (i at from : ℕ) (leaf : IsLeaf s.users ns q i at from) (n : ℕ) (free : path_of ns n ≡ None)
    (v : Tables) (hv : HoldsStates s.users (with_name ns n (q ++ i ∷ [])) v) (sources met : List ℕ) (own : List (ℕ × ℕ)) (mv : AreMovers s.users ns q i sources met) (ow : AreOwnEdges s.users ns from i own)
    (old : (w : List ℕ) → is_named ns w ≡ true → length q < length w → is_named s.names w ≡ true) where
  abbrev p : List ℕ
  p = q ++ i ∷ []

  abbrev more : Names
  more = with_name ns n p

  part_more : IsPart ns more
  part_more w k e = cond-false (same_path w p) (Some n) (number_of ns w)
      (false_from_ne_true (same_path w p) (λ f. false≢true (sym leaf.new ∙ ap (is_named ns) (sym ((same_path-Decides w p).0 f)) ∙ is_named_by ns w k e))) ∙ e

  -- another number than the new one
  other_number : (k : ℕ) (w : List ℕ) → path_of ns k ≡ Some w → nat_eq k n ≡ false
  other_number k w e = ne_eqb k n (λ same. none_is_some w (sym free ∙ ap (path_of ns) (sym same) ∙ e))

  abbrev es : List (ℕ × ℕ)
  es = pairs_at i sources

  abbrev key : ℕ × ℕ
  key = (at, i)

  module _ (part : IsPart s.names ns) where
    first_path : (w : List ℕ) (k : ℕ) → number_of ns w ≡ Some k → is_named s.names w ≡ true → path_of s.names k ≡ Some w
    first_path w k e named =
        let x = number_is s.names w named in
        let same = same_some x.0 k (sym (part w x.0 x.1) ∙ e) in
        h.names.numbered w k (x.1 ∙ ap Some same)

    new_before : path_of s.names n ≡ None
    new_before = by (path_of s.names n) refl
      where
        by : (o : Option (List ℕ)) → path_of s.names n ≡ o → path_of s.names n ≡ None
        by None e = e
        by (Some w) e = absurd (none_is_some w (sym free ∙ part_path s.names ns h.names leaf.names part n w e))

    module _ (ms : Names) (z : Tables) (top : IsPart more ms) (hz : HoldsStates s.users ms z) where
      low : IsPart s.names more
      low w k e = part_more w k (part w k e)

      last_path : (w : List ℕ) (k : ℕ) → number_of ns w ≡ Some k → path_of ms k ≡ Some w
      last_path w k e = hz.names.numbered w k (top w k (part_more w k e))

      source_costs : (k : ℕ) → is_listed k sources ≡ true → nat_eq k at ≡ false → Costs t z _ _ _ _ _ _ h.tables hz.tables (λ _. 3) (at_edge k i)
      source_costs k listed other =
          let moves : edge_moves s.users ns q i k ≡ true = sym (mv.edges k) ∙ listed in
          let f = edge_moves_parts s.users ns q i at from leaf k moves in
          let w = f.front in
          let number_w = leaf.names.named k w f.path in
          let end = (more_is_end q w i i f.gain.ends).1 in
          let l1 = length-suffix q w end in
          let longer : length q < length w = elim (cases_lt (length q) (length w)) [
            | inl lt ↦ lt
            | inr ge ↦
                let same : q ≡ w = whole_end q w end ge in
                let number = same_some at k (sym leaf.start ∙ ap (number_of ns) same ∙ number_w) in
                absurd (eqb-false k at other (sym number))
          ] in
          let path_0 = first_path w k number_w (old w (is_named_by ns w k number_w) longer) in
          let path_z = last_path w k number_w in
          let a = edge_there s.users s.names h.names k i w path_0 leaf.user f.apart in
          let b = edge_there s.users ms hz.names k i w path_z leaf.user f.apart in
          let lead : edge_of s.users more (k, i) ≡ Some n =
          edges_more s.users ns q i at from leaf n free k i
          ∙ cond-false (nat_eq k n) (cond (nat_eq i i) None (edge_of s.users ns (from, i))) (cond (nat_eq i i && edge_moves s.users ns q i k) (Some n) (edge_of s.users ns (k, i))) (other_number k w f.path)
          ∙ cond-true (nat_eq i i && edge_moves s.users ns q i k) (Some n) (edge_of s.users ns (k, i)) (and_from (nat_eq i i) (edge_moves s.users ns q i k) (eq-eqb i i refl) moves) in
          edge_moved t z _ _ _ _ _ _ h.tables hz.tables k i a.0 b.0 (h.names.sized w k (h.names.named k w path_0)) (h.numbers i leaf.user) a.1 b.1
          (λ same.
          let mid = edge_between s.names more ms h.names hv.names hz.names low top s.users k i a.0 a.1 (b.1 ∙ ap Some (sym same)) in
          let is : n ≡ a.0 = same_some n a.0 (sym lead ∙ mid) in
          let target = edge_target_named s.users s.names h.names k i a.0 a.1 in
          none_is_some target.0 (sym new_before ∙ ap (path_of s.names) is ∙ target.1))

      edge_costs : (e : ℕ × ℕ) → list_any (same_edge e) es ≡ true → same_edge e key ≡ false → Costs t z _ _ _ _ _ _ h.tables hz.tables (λ _. 3) (at_edge e.0 e.1)
      edge_costs e listed other =
          let parts = pair_parts i sources e listed in
          subst (λ j. Costs t z _ _ _ _ _ _ h.tables hz.tables (λ _. 3) (at_edge e.0 j)) (sym parts.1)
          (source_costs e.0 parts.0 (false_from_ne_true (nat_eq e.0 at) (λ same. false≢true (sym other ∙ and_from (nat_eq e.0 at) (nat_eq e.1 i) same (eq-eqb e.1 i parts.1)))))

      link_costs : (k : ℕ) → is_listed k met ≡ true → Costs t z _ _ _ _ _ _ h.tables hz.tables (λ _. 3) (at_link k)
      link_costs k listed =
          let moves : link_moves ns q i k ≡ true = sym (mv.links k) ∙ listed in
          let f = link_moves_parts s.users ns q i at from leaf k moves in
          let w = f.first ∷ f.back in
          let number_w = leaf.names.named k w f.path in
          let l1 = length-suffix p f.back f.gain.ends in
          let l2 = length_more q i in
          let path_0 = first_path w k number_w (old w (is_named_by ns w k number_w) (omega arith)) in
          let path_z = last_path w k number_w in
          let a = link_there s.names h.names k f.first f.back path_0 in
          let b = link_there ms hz.names k f.first f.back path_z in
          let lead : link_of more k ≡ Some n =
          links_more s.users ns q i at from leaf n free k
          ∙ cond-false (nat_eq k n) (Some from) (cond (link_moves ns q i k) (Some n) (link_of ns k)) (other_number k w f.path)
          ∙ cond-true (link_moves ns q i k) (Some n) (link_of ns k) moves in
          link_moved t z _ _ _ _ _ _ h.tables hz.tables k a.0 b.0 (h.names.sized w k (h.names.named k w path_0)) a.1 b.1
          (λ same.
          let mid = link_between s.names more ms h.names hv.names hz.names low top k a.0 a.1 (b.1 ∙ ap Some (sym same)) in
          let is : n ≡ a.0 = same_some n a.0 (sym lead ∙ mid) in
          let target = link_target_named s.names h.names k a.0 a.1 in
          none_is_some target.0 (sym new_before ∙ ap (path_of s.names) is ∙ target.1))

      moved_within : (ps : List (List ℕ)) → AreDifferences (tables.get t) (tables.get z) ps → sum_of (λ _. 3) (edges_less key es ++ links_at met) ≤ length ps
      moved_within ps d = costs_within t z _ _ _ _ _ _ h.tables hz.tables (λ _. 3) (edges_less key es ++ links_at met) (moved_apart key es met (pairs_at_once i sources mv.once) mv.met_once)
          (all_append (Costs t z _ _ _ _ _ _ h.tables hz.tables (λ _. 3)) (edges_less key es) (links_at met) (less_all (Costs t z _ _ _ _ _ _ h.tables hz.tables (λ _. 3)) key es edge_costs)
          (links_all (Costs t z _ _ _ _ _ _ h.tables hz.tables (λ _. 3)) met link_costs)) ps d

    new_come : AllByRecursion (IsCome s.users s.names more) (own_spots n own)
    new_come =
        let path : path_of more n ≡ Some p = cond-true (nat_eq n n) (Some p) (path_of ns n) (eq-eqb n n refl) in
        let link : link_of more n ≡ Some from =
        links_more s.users ns q i at from leaf n free n ∙ cond-true (nat_eq n n) (Some from) (cond (link_moves ns q i n) (Some n) (link_of ns n)) (eq-eqb n n refl) in (
          (p, path, new_before),
          (
            (from, link, new_before),
            edges_all (IsCome s.users s.names more) (λ x. look own x.0 ≡ Some x.1) n own
                (λ x g. (
                  x.1,
                  edges_more s.users ns q i at from leaf n free n x.0
                      ∙ cond-true (nat_eq n n) (cond (nat_eq x.0 i) None (edge_of s.users ns (from, x.0))) (cond (nat_eq x.0 i && edge_moves s.users ns q i n) (Some n) (edge_of s.users ns (n, x.0))) (eq-eqb n n refl)
                      ∙ sym (ow.leads x.0) ∙ g,
                  new_before,
                ))
                (looked own ow.once),
          ),
        )

  pub made_more : (steps next first before now : ℕ) → next ≡ steps + 1 → Rises (state_writes sources met own) before now → IsMade s t ns steps first before → IsMade s t more next first now
  made_more steps next first before now e written made = record {
    moves = made.moves + sum_of (λ _. 3) (edges_less key es ++ links_at met);
    own = made.own ++ own_spots n own;
    count = λ small.
        let a = written small in
        let b = made.count (omega arith) in
        let c = moved_sum key es met (pairs_at_once i sources mv.once) in
        let d = sum_append weight made.own (own_spots n own) in
        let f = own_weighs n own in
        let g = length-pairs i sources in
        omega (arith, a, b, c, d, f, g, e);
    many =
        let a = made.many in
        let d = sum_append weight made.own (own_spots n own) in
        let f = own_weighs n own in
        omega (arith, a, d, f, e);
    apart = apart_append made.own (own_spots n own) made.apart (own_apart n own ow.once)
        (all_map (IsCome s.users s.names ns) (λ r. AllByRecursion (λ x. r ≢ x) (own_spots n own)) made.own
        (λ r g. all_map (λ x. world_of x ≡ n) (λ x. r ≢ x) (own_spots n own)
        (λ x is same.
        let w = come_world s.users s.names ns r g in
        none_is_some w.0 (sym free ∙ ap (path_of ns) (sym is) ∙ ap (λ (y : Spot). path_of ns (world_of y)) (sym same) ∙ w.1))
        (own_world (λ k. k ≡ n) n own refl)) made.come);
    come = all_append (IsCome s.users s.names more) made.own (own_spots n own)
        (all_map (IsCome s.users s.names ns) (IsCome s.users s.names more) made.own (come_still s.users s.names ns more leaf.names hv.names part_more) made.come) (new_come made.part);
    part = λ w k number. part_more w k (made.part w k number);
    later = λ ms z top hz ps d. subst (λ k. made.moves + sum_of (λ _. 3) (edges_less key es ++ links_at met) ≤ k * length ps) (sym e)
        (next_moves steps made.moves (sum_of (λ _. 3) (edges_less key es ++ links_at met)) (length ps)
        (made.later ms z (λ w k number. top w k (part_more w k number)) hz ps d) (moved_within made.part ms z top hz ps d));
  }

-- ---- the loop

-- whichever states the tables held that may grow by a path, so much was written for the prefixes that have come
abbrev pub Making : Tables → List ℕ → ℕ → ℕ → List ℕ → ℕ → ℕ → Type 0
Making t path worlds len new before now = (s : Worlds) → MayGrow s t path worlds → IsMade s t (with_prefixes s.names path len new) (length new) before now

pub making_begins : (t : Tables) (path : List ℕ) (worlds len : ℕ) (new : List ℕ) (before now : ℕ) → new ≡ [] → now ≡ before → Making t path worlds len new before now
making_begins t path worlds len new before now e f s g = subst (λ x. IsMade s t (with_prefixes s.names path len x) (length x) before now) (sym e) (made_none s t before now f)

module _ (t u : Tables) (path : List ℕ) (worlds len : ℕ) (new : List ℕ) (at low k : ℕ) (is : k ≡ len + length new) (apart : alternates path ≡ true) (inside : k < length path) (growing : Growing t u path worlds len new at low) where
  -- what is longer than the prefixes that have come was there
  was_there : (s : Worlds) (g : MayGrow s t path worlds) (w : List ℕ) → is_named (with_prefixes s.names path len new) w ≡ true → k < length w → is_named s.names w ≡ true
  was_there s g w named longer = elim (or_cases (is_named s.names w) (is_prefix w path) (named_old s.names path len new w named)) [
    | inl a ↦ a
    | inr b ↦
        let now = growing s g in
        let l = length-prefix w path b in
        absurd (false≢true (sym (now.fresh (length w) (omega arith) l) ∙ ap (is_named (with_prefixes s.names path len new)) (sym (prefix_is_take w path b)) ∙ named))
  ]

  pub making_more : (count depth number before after : ℕ) (v : Tables) → count ≡ worlds + length new → depth ≡ k + 1 → FindsFree u count low number → IsAdded u v at (get_or path k 0) depth number before after
      → (more : List ℕ) → more ≡ new ++ number ∷ [] → (first : ℕ) → Making t path worlds len new first before → Making t path worlds len more first after
  making_more count depth number before after v e d free added more m first making s g =
      let ms = with_prefixes s.names path len new in
      let ws : Worlds = record { users = s.users; names = ms } in
      let q = take k path in
      let i = get_or path k 0 in
      let now = growing s g in
      let next = next_is t u path worlds len new at low k is apart inside growing s g in
      let found = found_is t u path worlds len new at low k is apart inside growing s g count depth number before after v e d free added in
      let held = holds_now t u path worlds len new at low k is apart inside growing s g count depth number before after v e d free added in
      let names = names_now t u path worlds len new at low k is apart inside growing s g count depth number before after v e d free added in
      let leaf = leaf_is ws u now.states q i at next added.from added.taken.edge in
      let long = length-take-is path k (omega arith) in
      let made = made_more s t g.states ms q i at added.from leaf number found.free v held added.sources added.met added.own (added.taken.movers ws q now.states leaf) (added.taken.edges ws now.states)
      (λ w named longer. was_there s g w named (omega arith)) (length new) (length (new ++ number ∷ [])) first before after (pushed new number) added.count (making s g) in
      subst (λ x. IsMade s t (with_prefixes s.names path len x) (length x) first after) (sym m) (subst (λ x. IsMade s t x (length (new ++ number ∷ [])) first after) (sym names) made)
    where
      pushed : (xs : List ℕ) (x : ℕ) → length (xs ++ x ∷ []) ≡ length xs + 1
      pushed [] x = omega arith
      pushed (y ∷ xs) x = let e = pushed xs x in omega (arith, e)

pub making_ends : (old new : Seen) (path : List ℕ) (worlds len : ℕ) (numbers : List ℕ) (at low : ℕ) → SomeMayGrow old.kept path worlds → len + length numbers ≡ length path
    → Growing old.kept new.kept path worlds len numbers at low → Making old.kept path worlds len numbers old.writes new.writes → WritesWithin (length path + 2) old new
making_ends old new path worlds len numbers at low some whole growing making ps d =
    let s = some.worlds_held in
    made_all s old.kept some.may.states (with_prefixes s.names path len numbers) new.kept (length numbers) (length path) old.writes new.writes (growing s some.may).states (omega arith) (making s some.may) ps d
