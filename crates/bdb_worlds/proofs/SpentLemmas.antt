-- What is written for the states that go, and at how many places rows differ for it.
use Rattle.std.proofs.Common.{◌≡◌, ◌≢◌, ◌∙◌, ℕ, ◌+◌, ◌*◌, ◌≤◌, ◌<◌, Bool, true, false, not, ◌&&◌, nat_eq, cond, List, [], ◌∷◌, ◌++◌, refl, ap, sym, subst, suc, arith, length, map, take, get_or, Option, Some, None}
use Rattle.std.specs.List.{AllByRecursion, list_all, list_any}
use Rattle.std.specs.Option.{option_map}
use Rattle.std.specs.FinMap as tables
use Rattle.std.proofs.lemmas.Bool.{and_parts, or_left, or_right, or_parts, false≢true, false_from_ne_true, not-true, cond-true, cond-false, eq-eqb, eqb-false}
use Rattle.std.proofs.lemmas.Nat.{mul-le}
use Rattle.bdb_base.specs.Same.{same_path}
use Rattle.bdb_base.specs.SameLemmas.{same_path-Decides}
use Rattle.bdb_base.specs.States.{deepest_suffix}
use Rattle.bdb_base.proofs.OptionLemmas.{none_is_some, same_some}
use Rattle.bdb_base.proofs.ListLemmas.{length_map}
use Rattle.bdb_base.specs.Causes.{is_listed}
use Rattle.bdb_paths.proofs.SuffixLemmas.{deepest_is_suffix, length-deepest}
use Rattle.bdb_keep.specs.Tables.{Tables}
use Rattle.bdb_key.specs.Grammar.{IsNum}
use Rattle.bdb_tables.specs.Differences.{AreDifferences}
use Rattle.bdb_tables.specs.Names.{Names, path_of, number_of, is_named, are_once, without_name, depth_of, link_of, edge_of}
use Rattle.bdb_tables.specs.States.{HoldsStates}
use Rattle.bdb_names.specs.Drops.{IsLast}
use Rattle.bdb_names.specs.Turned.{same_edge, look}
use Rattle.bdb_names.proofs.Ends.{whole_end, length_more, one_more}
use Rattle.bdb_names.proofs.NameLemmas.{same_number, number_is, link_found, link_at_none, edge_found, edge_at_none}
use Rattle.bdb_keep.specs.Seen.{Seen}
use Rattle.bdb_names.proofs.TurnedLemmas.{same_edge_is}
use Rattle.bdb_worlds.specs.Bounds.{EndsWithin, WritesWithin}
use Rattle.bdb_worlds.specs.Dropping.{pairs_of, kids_of, edges_in_rows, IsDroppedWithin}
use Rattle.bdb_worlds.specs.Holding.{Worlds, HoldSome}
use Rattle.bdb_worlds.specs.Shrinking.{without_prefixes}
use Rattle.bdb_worlds.specs.Staying.{TellsNeeded}
use Rattle.bdb_worlds.proofs.CostLemmas.{Spot, at_depth, at_link, at_linked, at_edge, at_led, Apart, all_append, apart_append, all_map, sum_of, sum_append, Costs, costs_within, link_moved, edge_moved, goes, weight, depth_weighs, link_weighs, edge_weighs, length-both}
use Rattle.bdb_worlds.proofs.GoneLemmas.{looked, not_itself, pairs_lead, kids_lead, own_once, own_sizes, look_is, same_edge_itself}
use Rattle.bdb_worlds.proofs.GrowLemmas.{length-take-is}
use Rattle.bdb_worlds.proofs.PartLemmas.{IsPart, part_path, link_between, edge_between, edge_there, link_there, edge_target_named, link_target_named}
use Rattle.bdb_worlds.proofs.ReadLemmas.{link_read}
use Rattle.bdb_worlds.proofs.OutsideLemmas.{SameElsewhere}
use Rattle.bdb_worlds.proofs.ShrinkLemmas.{Shrinking, number, not_longer, names_are}
use Rattle.bdb_worlds.proofs.UnderLemmas.{are_pairs_once, pairs_once, kids_once}
use Rattle.bdb_worlds.proofs.WalkLemmas.{take_next}

-- ---- lists of edges and links

-- the edges but one
abbrev pub edges_less : ℕ × ℕ → List (ℕ × ℕ) → List Spot
edges_less key [] = []
edges_less key (k ∷ ks) = cond (same_edge k key) (edges_less key ks) (at_edge k.0 k.1 ∷ edges_less key ks)

abbrev pub links_at : List ℕ → List Spot
links_at ks = map (λ k. at_link k) ks

abbrev pub edges_at : ℕ → List (ℕ × ℕ) → List Spot
edges_at n xs = map (λ x. at_edge n x.0) xs

-- facts of each edge but one
pub less_all : (P : Spot → Type 0) (key : ℕ × ℕ) (ks : List (ℕ × ℕ)) → ((k : ℕ × ℕ) → list_any (same_edge k) ks ≡ true → same_edge k key ≡ false → P (at_edge k.0 k.1)) → AllByRecursion P (edges_less key ks)
less_all P key [] f = tt
less_all P key (k ∷ ks) f = by (less_all P key ks (λ q h. f q (or_right (same_edge q k) (list_any (same_edge q) ks) h))) (same_edge k key) refl
  where
    by : AllByRecursion P (edges_less key ks) → (b : Bool) → same_edge k key ≡ b → AllByRecursion P (cond b (edges_less key ks) (at_edge k.0 k.1 ∷ edges_less key ks))
    by rest true e = rest
    by rest false e = (f k (or_left (same_edge k k) (list_any (same_edge k) ks) (same_edge_itself k)) e, rest)

edge_one : (a b c d : ℕ) → at_edge a b ≡ at_edge c d → (a ≡ c) × (b ≡ d)
edge_one a b c d e = (cc, cc)

link_one : (a b : ℕ) → at_link a ≡ at_link b → a ≡ b
link_one a b e = cc

link_no_edge : (a c d : ℕ) → at_edge c d ≡ at_link a → ⊥
link_no_edge a c d e = cc

both_same : (k q : ℕ × ℕ) → (k.0 ≡ q.0) × (k.1 ≡ q.1) → same_edge k q ≡ true
both_same k q e = ap (λ (x : ℕ). nat_eq_and (nat_eq k.0 x) (nat_eq k.1 q.1)) (sym e.0) ∙ ap (λ (x : ℕ). nat_eq_and (nat_eq k.0 k.0) (nat_eq k.1 x)) (sym e.1) ∙ same_edge_itself k
  where
    nat_eq_and : Bool → Bool → Bool
    nat_eq_and a b = a && b

pub less_apart : (key : ℕ × ℕ) (ks : List (ℕ × ℕ)) → are_pairs_once ks ≡ true → Apart (edges_less key ks)
less_apart key [] once = tt
less_apart key (k ∷ ks) once = by (less_apart key ks (and_parts (not (list_any (same_edge k) ks)) (are_pairs_once ks) once).1) (same_edge k key)
  where
    parts : (not (list_any (same_edge k) ks) ≡ true) × (are_pairs_once ks ≡ true)
    parts = and_parts (not (list_any (same_edge k) ks)) (are_pairs_once ks) once

    turned : (q : ℕ × ℕ) → list_any (same_edge q) ks ≡ true → at_edge k.0 k.1 ≡ at_edge q.0 q.1 → ⊥
    turned q h e =
        let same : k ≡ q = same_edge_is k q (both_same k q (edge_one k.0 k.1 q.0 q.1 e)) in
        false≢true (sym (not-true (list_any (same_edge k) ks) parts.0) ∙ ap (λ x. list_any (same_edge x) ks) same ∙ h)

    by : Apart (edges_less key ks) → (b : Bool) → Apart (cond b (edges_less key ks) (at_edge k.0 k.1 ∷ edges_less key ks))
    by rest true = rest
    by rest false = (less_all (λ r. at_edge k.0 k.1 ≢ r) key ks (λ q h other e. turned q h e), rest)

less_none : (key : ℕ × ℕ) (ks : List (ℕ × ℕ)) → list_any (same_edge key) ks ≡ false → length (edges_less key ks) ≡ length ks
less_none key [] f = refl
less_none key (k ∷ ks) f =
    let p = or_parts (same_edge key k) (list_any (same_edge key) ks) f in
    let other : same_edge k key ≡ false = false_from_ne_true (same_edge k key) (λ e. false≢true (sym p.0 ∙ ap (λ x. same_edge x k) (sym (same_edge_is k key e)) ∙ same_edge_itself k)) in
    ap (λ b. length (cond b (edges_less key ks) (at_edge k.0 k.1 ∷ edges_less key ks))) other ∙ ap (λ n. suc n) (less_none key ks p.1)

-- one is left out at most
pub less_length : (key : ℕ × ℕ) (ks : List (ℕ × ℕ)) → are_pairs_once ks ≡ true → length ks ≤ length (edges_less key ks) + 1
less_length key [] once = omega arith
less_length key (k ∷ ks) once = by (less_length key ks (and_parts (not (list_any (same_edge k) ks)) (are_pairs_once ks) once).1) (same_edge k key) refl
  where
    parts : (not (list_any (same_edge k) ks) ≡ true) × (are_pairs_once ks ≡ true)
    parts = and_parts (not (list_any (same_edge k) ks)) (are_pairs_once ks) once

    by : length ks ≤ length (edges_less key ks) + 1 → (b : Bool) → same_edge k key ≡ b → suc (length ks) ≤ length (cond b (edges_less key ks) (at_edge k.0 k.1 ∷ edges_less key ks)) + 1
    by rest true e =
        let n = less_none key ks (ap (λ x. list_any (same_edge x) ks) (sym (same_edge_is k key e)) ∙ not-true (list_any (same_edge k) ks) parts.0) in
        omega (arith, n)
    by rest false e = omega (arith, rest)

pub links_all : (P : Spot → Type 0) (ks : List ℕ) → ((k : ℕ) → is_listed k ks ≡ true → P (at_link k)) → AllByRecursion P (links_at ks)
links_all P [] f = tt
links_all P (k ∷ ks) f = (f k (or_left (nat_eq k k) (is_listed k ks) (eq-eqb k k refl)), links_all P ks (λ q h. f q (or_right (nat_eq q k) (is_listed q ks) h)))

pub links_apart : (ks : List ℕ) → are_once ks ≡ true → Apart (links_at ks)
links_apart [] once = tt
links_apart (k ∷ ks) once =
    let p = and_parts (not (is_listed k ks)) (are_once ks) once in
    (links_all (λ r. at_link k ≢ r) ks (λ q h e. false≢true (sym (not-true (is_listed k ks) p.0) ∙ ap (λ x. is_listed x ks) (link_one k q e) ∙ h)), links_apart ks p.1)

length-links : (ks : List ℕ) → length (links_at ks) ≡ length ks
length-links [] = refl
length-links (k ∷ ks) = ap (λ n. suc n) (length-links ks)

-- edges and links are apart
pub moved_apart : (key : ℕ × ℕ) (es : List (ℕ × ℕ)) (ks : List ℕ) → are_pairs_once es ≡ true → are_once ks ≡ true → Apart (edges_less key es ++ links_at ks)
moved_apart key es ks a b =
    apart_append (edges_less key es) (links_at ks) (less_apart key es a) (links_apart ks b)
    (less_all (λ r. AllByRecursion (λ q. r ≢ q) (links_at ks)) key es (λ k h other. links_all (λ q. at_edge k.0 k.1 ≢ q) ks (λ q g e. link_no_edge q k.0 k.1 e)))

sum_threes : (xs : List Spot) → sum_of (λ _. 3) xs ≡ 3 * length xs
sum_threes [] = refl
sum_threes (x ∷ xs) = let e = sum_threes xs in omega (arith, e)

pub moved_sum : (key : ℕ × ℕ) (es : List (ℕ × ℕ)) (ks : List ℕ) → are_pairs_once es ≡ true → 3 * length es + 3 * length ks ≤ sum_of (λ _. 3) (edges_less key es ++ links_at ks) + 3
moved_sum key es ks once =
    let a = less_length key es once in
    let b = length-links ks in
    let c = length-both (edges_less key es) (links_at ks) in
    let d = sum_threes (edges_less key es ++ links_at ks) in
    omega (arith, a, b, c, d)

-- ---- the own rows of a world

abbrev pub own_spots : ℕ → List (ℕ × ℕ) → List Spot
own_spots n xs = at_depth n ∷ at_link n ∷ edges_at n xs

pub edges_all : (P : Spot → Type 0) (Q : ℕ × ℕ → Type 0) (n : ℕ) (xs : List (ℕ × ℕ)) → ((x : ℕ × ℕ) → Q x → P (at_edge n x.0)) → AllByRecursion Q xs → AllByRecursion P (edges_at n xs)
edges_all P Q n [] f h = tt
edges_all P Q n (x ∷ xs) f h = (f x h.0, edges_all P Q n xs f h.1)

edges_other : (P : Spot → Type 0) (n j : ℕ) (xs : List (ℕ × ℕ)) → is_listed j (map (λ x. x.0) xs) ≡ false → ((k : ℕ) → (j ≡ k → ⊥) → P (at_edge n k)) → AllByRecursion P (edges_at n xs)
edges_other P n j [] h f = tt
edges_other P n j (x ∷ xs) h f =
    let p = or_parts (nat_eq j x.0) (is_listed j (map (λ x. x.0) xs)) h in
    (f x.0 (eqb-false j x.0 p.0), edges_other P n j xs p.1 f)

edges_any : (P : Spot → Type 0) (n : ℕ) (xs : List (ℕ × ℕ)) → ((k : ℕ) → P (at_edge n k)) → AllByRecursion P (edges_at n xs)
edges_any P n [] f = tt
edges_any P n (x ∷ xs) f = (f x.0, edges_any P n xs f)

edges_apart : (n : ℕ) (xs : List (ℕ × ℕ)) → are_once (map (λ x. x.0) xs) ≡ true → Apart (edges_at n xs)
edges_apart n [] once = tt
edges_apart n (x ∷ xs) once =
    let p = and_parts (not (is_listed x.0 (map (λ x. x.0) xs))) (are_once (map (λ x. x.0) xs)) once in
    (edges_other (λ r. at_edge n x.0 ≢ r) n x.0 xs (not-true (is_listed x.0 (map (λ x. x.0) xs)) p.0) (λ k other e. other (edge_one n x.0 n k e).1), edges_apart n xs p.1)

pub own_apart : (n : ℕ) (xs : List (ℕ × ℕ)) → are_once (map (λ x. x.0) xs) ≡ true → Apart (own_spots n xs)
own_apart n xs once = (
  ((λ e. depth_no_link n n e), edges_any (λ r. at_depth n ≢ r) n xs (λ k e. depth_no_edge n n k e)),
  (edges_any (λ r. at_link n ≢ r) n xs (λ k e. link_no_edge n n k (sym e)), edges_apart n xs once),
)
  where
    depth_no_link : (a b : ℕ) → at_depth a ≡ at_link b → ⊥
    depth_no_link a b e = cc

    depth_no_edge : (a b c : ℕ) → at_depth a ≡ at_edge b c → ⊥
    depth_no_edge a b c e = cc

edges_weigh : (n : ℕ) (xs : List (ℕ × ℕ)) → sum_of weight (edges_at n xs) ≡ 2 * length xs
edges_weigh n [] = refl
edges_weigh n (x ∷ xs) = let e = edges_weigh n xs in omega (arith, e)

pub own_weighs : (n : ℕ) (xs : List (ℕ × ℕ)) → sum_of weight (own_spots n xs) ≡ 2 * length xs + 3
own_weighs n xs = let e = edges_weigh n xs in omega (arith, e)

-- the world that a depth, a link or an edge is of
abbrev pub world_of : Spot → ℕ
world_of (at_depth n) = n
world_of (at_link n) = n
world_of (at_linked a n) = n
world_of (at_edge n j) = n
world_of (at_led a n j) = n

pub own_world : (P : ℕ → Type 0) (n : ℕ) (xs : List (ℕ × ℕ)) → P n → AllByRecursion (λ r. P (world_of r)) (own_spots n xs)
own_world P n xs h = (h, (h, edges_any (λ r. P (world_of r)) n xs (λ k. h)))

-- ---- how often writes are made

pub small_sum : (steps d moves own c : ℕ) → steps ≤ d → moves ≤ steps * c → own ≤ c → 3 * steps ≤ own → moves + (own + 3 * steps) ≤ (d + 2) * c
small_sum steps d moves own c a b e f =
    let g = mul-le steps c d c a (omega arith) in
    let h : (d + 2) * c ≡ d * c + 2 * c = grind arith in
    omega (arith, b, e, f, g, h)

pub next_moves : (steps moves more c : ℕ) → moves ≤ steps * c → more ≤ c → moves + more ≤ (steps + 1) * c
next_moves steps moves more c a b =
    let h : (steps + 1) * c ≡ steps * c + c = grind arith in
    omega (arith, a, b, h)

-- ---- the states that go

-- a depth, a link or an edge was there, and its world has gone
abbrev pub IsGone : (ℕ → Bool) → Names → Names → Spot → Type 0
IsGone users ns ms (at_depth n) = (w : List ℕ) × (path_of ns n ≡ Some w) × (path_of ms n ≡ None)
IsGone users ns ms (at_link n) = (x : ℕ) × (link_of ns n ≡ Some x) × (path_of ms n ≡ None)
IsGone users ns ms (at_edge n j) = (x : ℕ) × (edge_of users ns (n, j) ≡ Some x) × (path_of ms n ≡ None)
IsGone users ns ms (at_linked a n) = ⊥
IsGone users ns ms (at_led a n j) = ⊥

-- names that are left, whatever more goes of a path's prefixes of no more users than so many
pub record MayBeLeft (ns ms : Names) (path : List ℕ) (left : ℕ) : Type 0 where
  pub part : IsPart ms ns
  pub stays : (w : List ℕ) (n : ℕ) → number_of ns w ≡ Some n → ((length w ≤ left) × (w ≡ take (length w) path) → ⊥) → number_of ms w ≡ Some n

-- so much is written, and for so many rows that differ whatever more goes
pub record IsSpent (s : Worlds) (t : Tables) (ns : Names) (path : List ℕ) (left steps before now : ℕ) : Type 0 where
  pub moves : ℕ
  pub own : List Spot
  pub count : EndsWithin (moves + (sum_of weight own + 3 * steps)) before now
  pub many : 3 * steps ≤ sum_of weight own
  pub apart : Apart own
  pub gone : AllByRecursion (IsGone s.users s.names ns) own
  pub part : IsPart ns s.names
  pub later : (ms : Names) (v : Tables) → MayBeLeft ns ms path left → HoldsStates s.users ms v → (ps : List (List ℕ)) → AreDifferences (tables.get t) (tables.get v) ps → moves ≤ steps * length ps

pub spent_none : (s : Worlds) (t : Tables) (path : List ℕ) (left before now : ℕ) → now ≡ before → IsSpent s t s.names path left 0 before now
spent_none s t path left before now e = record {
  moves = 0;
  own = [];
  count = λ l. omega arith;
  many = omega arith;
  apart = tt;
  gone = tt;
  part = λ w n h. h;
  later = λ ms v left held ps d. omega arith;
}

module _ (s : Worlds) (t : Tables) (h : HoldsStates s.users s.names t) where
  -- rows of worlds that have gone differ
  gone_weighs : (ms : Names) (v : Tables) → IsPart ms s.names → (hv : HoldsStates s.users ms v) → (r : Spot) → IsGone s.users s.names ms r
      → Costs t v (depth_of s.names) (link_of s.names) (edge_of s.users s.names) (depth_of ms) (link_of ms) (edge_of s.users ms) h.tables hv.tables weight r
  gone_weighs ms v part hv (at_depth n) g =
      depth_weighs t v _ _ _ _ _ _ h.tables hv.tables n (h.names.sized g.0 n (h.names.named n g.0 g.1))
      (goes (length g.0) (ap (option_map (λ w. length w)) g.1) (ap (option_map (λ w. length w)) g.2))
  gone_weighs ms v part hv (at_link n) g =
      let l = link_found s.names n g.0 g.1 in
      link_weighs t v _ _ _ _ _ _ h.tables hv.tables n (h.names.sized (l.first ∷ l.back) n (h.names.named n (l.first ∷ l.back) l.path)) (goes g.0 g.1 (link_at_none ms n g.2))
  gone_weighs ms v part hv (at_edge n j) g =
      let l = edge_found s.users s.names n j g.0 g.1 in
      edge_weighs t v _ _ _ _ _ _ h.tables hv.tables n j (h.names.sized l.front n (h.names.named n l.front l.path)) (h.numbers j l.user) (goes g.0 g.1 (edge_at_none s.users ms n j g.2))
  gone_weighs ms v part hv (at_linked a n) g = absurd g
  gone_weighs ms v part hv (at_led a n j) g = absurd g

  -- what is written in all
  pub spent_all : (ns : Names) (u : Tables) (path : List ℕ) (left steps d before now : ℕ) → HoldsStates s.users ns u → steps ≤ d → IsSpent s t ns path left steps before now
      → (ps : List (List ℕ)) → AreDifferences (tables.get t) (tables.get u) ps → EndsWithin ((d + 2) * length ps) before now
  spent_all ns u path left steps d before now hu le spent ps diff small =
      let a = spent.later ns u (record { part = λ w n e. e; stays = λ w n e _. e }) hu ps diff in
      let b = costs_within t u _ _ _ _ _ _ h.tables hu.tables weight spent.own spent.apart
      (all_map (IsGone s.users s.names ns) (Costs t u _ _ _ _ _ _ h.tables hu.tables weight) spent.own (gone_weighs ns u spent.part hu) spent.gone) ps diff in
      let c = small_sum steps d spent.moves (sum_of weight spent.own) (length ps) le a b spent.many in
      let e = spent.count small in
      omega (arith, c, e)

both_facts : (P Q : ℕ × ℕ → Type 0) (xs : List (ℕ × ℕ)) → AllByRecursion P xs → AllByRecursion Q xs → AllByRecursion (λ x. P x × Q x) xs
both_facts P Q [] f g = tt
both_facts P Q (x ∷ xs) f g = ((f.0, g.0), both_facts P Q xs f.1 g.1)

gone_world : (users : ℕ → Bool) (ns ms : Names) (r : Spot) → IsGone users ns ms r → path_of ms (world_of r) ≡ None
gone_world users ns ms (at_depth n) g = g.2
gone_world users ns ms (at_link n) g = g.2
gone_world users ns ms (at_edge n j) g = g.2
gone_world users ns ms (at_linked a n) g = absurd g
gone_world users ns ms (at_led a n j) g = absurd g

still_none : (b : Bool) (o : Option (List ℕ)) → o ≡ None → cond b None o ≡ None
still_none true o e = refl
still_none false o e = e

gone_still : (users : ℕ → Bool) (ns ms : Names) (n : ℕ) (p : List ℕ) (r : Spot) → IsGone users ns ms r → IsGone users ns (without_name ms n p) r
gone_still users ns ms n p (at_depth k) g = (g.0, g.1, still_none (nat_eq k n) (path_of ms k) g.2)
gone_still users ns ms n p (at_link k) g = (g.0, g.1, still_none (nat_eq k n) (path_of ms k) g.2)
gone_still users ns ms n p (at_edge k j) g = (g.0, g.1, still_none (nat_eq k n) (path_of ms k) g.2)
gone_still users ns ms n p (at_linked a k) g = absurd g
gone_still users ns ms n p (at_led a k j) g = absurd g

-- one state more goes
module _ (s : Worlds) (t : Tables) (h : HoldsStates s.users s.names t) (ns : Names) (u : Tables) (hu : HoldsStates s.users ns u) (path : List ℕ) (left at n : ℕ) (here : left ≡ at + 1) (inside : at < length path)
    (number : number_of ns (take left path) ≡ Some n) (last : (i : ℕ) → is_named ns (take left path ++ i ∷ []) ≡ false) (v : Tables) (before now : ℕ) (dropped : IsDroppedWithin u v n before now) where
  abbrev p : List ℕ
  p = take left path

  long : length p ≡ left
  long = length-take-is path left (omega arith)

  some : p ≡ [] → ⊥
  some e = let l = ap length e in let k = long in absurd (omega arith)

  abbrev less : Names
  less = without_name ns n p

  size : IsNum n
  size = hu.names.sized p n number

  own_path : path_of ns n ≡ Some p
  own_path = hu.names.numbered p n number

  is_last : IsLast ns p n dropped.state.link
  is_last = record {
    names = hu.names;
    number = number;
    some = some;
    last = last;
    led = sym (link_read u _ _ _ hu.tables n size (Some dropped.state.link) dropped.state.rows.link);
  }

  abbrev ws : Worlds
  ws = record { users = s.users; names = ns }

  abbrev es : List (ℕ × ℕ)
  es = pairs_of dropped.state.led_rows

  abbrev ks : List ℕ
  ks = kids_of dropped.state.linked_rows

  abbrev xs : List (ℕ × ℕ)
  xs = edges_in_rows dropped.state.edge_rows

  es_once : are_pairs_once es ≡ true
  es_once = pairs_once u n size dropped.state.led_rows dropped.state.rows.led.each dropped.state.rows.led.sorted

  ks_once : are_once ks ≡ true
  ks_once = kids_once u n size dropped.state.linked_rows dropped.state.rows.linked.each dropped.state.rows.linked.sorted

  xs_once : are_once (map (λ x. x.0) xs) ≡ true
  xs_once = own_once ws u hu p n dropped.state.link is_last dropped.state.led_rows dropped.state.linked_rows dropped.state.edge_rows dropped.state.rows

  last_user : p ≡ take at path ++ get_or path at 0 ∷ []
  last_user = ap (λ k. take k path) here ∙ take_next path at inside

  front_number : (m : ℕ) × (number_of ns (take at path) ≡ Some m)
  front_number = number_is ns (take at path) (hu.names.prefixes (take at path) (get_or path at 0 ∷ []) (ap (is_named ns) (sym last_user) ∙ ap is_some number))
    where
      is_some : Option ℕ → Bool
      is_some None = false
      is_some (Some x) = true

  -- the edge of the path without its last user to the path
  abbrev key : ℕ × ℕ
  key = (front_number.0, get_or path at 0)

  old_number : (w : List ℕ) (k : ℕ) → number_of less w ≡ Some k → (number_of ns w ≡ Some k) × (same_path w p ≡ false)
  old_number w k e = by (same_path w p) refl
    where
      by : (b : Bool) → same_path w p ≡ b → (number_of ns w ≡ Some k) × (same_path w p ≡ false)
      by true f = absurd (none_is_some k (sym (cond-true (same_path w p) None (number_of ns w) f) ∙ e))
      by false f = (sym (cond-false (same_path w p) None (number_of ns w) f) ∙ e, f)

  part_less : IsPart less ns
  part_less w k e = (old_number w k e).0

  still_number : (w : List ℕ) (k : ℕ) → number_of ns w ≡ Some k → (w ≡ p → ⊥) → number_of less w ≡ Some k
  still_number w k e other = cond-false (same_path w p) None (number_of ns w) (false_from_ne_true (same_path w p) (λ f. other ((same_path-Decides w p).0 f))) ∙ e

  module _ (part : IsPart ns s.names) (ms : Names) (z : Tables) (may : MayBeLeft less ms path at) (hz : HoldsStates s.users ms z) where
    low : IsPart ms ns
    low w k e = part_less w k (may.part w k e)

    -- the number of the path is none of those that are left
    not_left : (w : List ℕ) → path_of ms n ≡ Some w → ⊥
    not_left w e =
        let k = old_number w n (may.part w n (hz.names.named n w e)) in
        false≢true (sym k.1 ∙ (same_path-Decides w p).1 (same_number ns hu.names w p n k.0 number))

    edge_costs : (k : ℕ × ℕ) → list_any (same_edge k) es ≡ true → same_edge k key ≡ false → Costs t z _ _ _ _ _ _ h.tables hz.tables (λ _. 3) (at_edge k.0 k.1)
    edge_costs k listed other =
        let lead : edge_of s.users ns k ≡ Some n = pairs_lead ws u hu p n dropped.state.link is_last dropped.state.led_rows dropped.state.linked_rows dropped.state.edge_rows dropped.state.rows k listed in
        let f = edge_found s.users ns k.0 k.1 n lead in
        let w = f.front in
        let number_w = hu.names.named k.0 w f.path in
        let not_p : w ≡ p → ⊥ = λ e.
        let same = same_some k.0 n (sym number_w ∙ ap (number_of ns) e ∙ number) in
        not_itself ws u hu p n dropped.state.link is_last k.1 (ap (λ y. edge_of s.users ns (y, k.1)) (sym same) ∙ lead) in
        let safe : (length w ≤ at) × (w ≡ take (length w) path) → ⊥ = λ c.
        let d = deepest_suffix (is_named ns) (w ++ k.1 ∷ []) in
        let deep : d ≡ p = same_number ns hu.names d p n f.target number in
        let l1 = length-deepest (is_named ns) (w ++ k.1 ∷ []) in
        let l2 = length_more w k.1 in
        let l3 = ap length deep in
        let l4 = long in
        let l5 = c.0 in
        let whole : d ≡ w ++ k.1 ∷ [] = whole_end d (w ++ k.1 ∷ []) (deepest_is_suffix (is_named ns) (w ++ k.1 ∷ [])) (omega arith) in
        let lw : length w ≡ at = omega arith in
        let is : w ≡ take at path = c.1 ∙ ap (λ j. take j path) lw in
        let both = one_more w (take at path) k.1 (get_or path at 0) (sym whole ∙ deep ∙ last_user) in
        let same = same_some k.0 front_number.0 (sym number_w ∙ ap (number_of ns) is ∙ front_number.1) in
        false≢true (sym other ∙ both_same k key (same, both.1)) in
        let path_z = hz.names.numbered w k.0 (may.stays w k.0 (still_number w k.0 number_w not_p) safe) in
        let path_0 = part_path ns s.names hu.names h.names part k.0 w f.path in
        let a = edge_there s.users s.names h.names k.0 k.1 w path_0 f.user f.apart in
        let b = edge_there s.users ms hz.names k.0 k.1 w path_z f.user f.apart in
        edge_moved t z _ _ _ _ _ _ h.tables hz.tables k.0 k.1 a.0 b.0 (hu.names.sized w k.0 number_w) (h.numbers k.1 f.user) a.1 b.1
        (λ e.
        let mid = edge_between ms ns s.names hz.names hu.names h.names low part s.users k.0 k.1 b.0 b.1 (a.1 ∙ ap Some e) in
        let same : n ≡ b.0 = same_some n b.0 (sym lead ∙ mid) in
        let target = edge_target_named s.users ms hz.names k.0 k.1 b.0 b.1 in
        not_left target.0 (ap (path_of ms) same ∙ target.1))

    link_costs : (k : ℕ) → is_listed k ks ≡ true → Costs t z _ _ _ _ _ _ h.tables hz.tables (λ _. 3) (at_link k)
    link_costs k listed =
        let lead : link_of ns k ≡ Some n = kids_lead ws u hu p n dropped.state.link is_last dropped.state.led_rows dropped.state.linked_rows dropped.state.edge_rows dropped.state.rows k listed in
        let f = link_found ns k n lead in
        let w = f.first ∷ f.back in
        let number_w = hu.names.named k w f.path in
        let deep : deepest_suffix (is_named ns) f.back ≡ p = same_number ns hu.names (deepest_suffix (is_named ns) f.back) p n f.target number in
        let l1 = length-deepest (is_named ns) f.back in
        let l2 = ap length deep in
        let l3 = long in
        let not_p : w ≡ p → ⊥ = λ e. let l4 = ap length e in absurd (omega arith) in
        let safe : (length w ≤ at) × (w ≡ take (length w) path) → ⊥ = λ c. let l4 = c.0 in absurd (omega arith) in
        let path_z = hz.names.numbered w k (may.stays w k (still_number w k number_w not_p) safe) in
        let path_0 = part_path ns s.names hu.names h.names part k w f.path in
        let a = link_there s.names h.names k f.first f.back path_0 in
        let b = link_there ms hz.names k f.first f.back path_z in
        link_moved t z _ _ _ _ _ _ h.tables hz.tables k a.0 b.0 (hu.names.sized w k number_w) a.1 b.1
        (λ e.
        let mid = link_between ms ns s.names hz.names hu.names h.names low part k b.0 b.1 (a.1 ∙ ap Some e) in
        let same : n ≡ b.0 = same_some n b.0 (sym lead ∙ mid) in
        let target = link_target_named ms hz.names k b.0 b.1 in
        not_left target.0 (ap (path_of ms) same ∙ target.1))

    moved_within : (ps : List (List ℕ)) → AreDifferences (tables.get t) (tables.get z) ps → sum_of (λ _. 3) (edges_less key es ++ links_at ks) ≤ length ps
    moved_within ps d = costs_within t z _ _ _ _ _ _ h.tables hz.tables (λ _. 3) (edges_less key es ++ links_at ks) (moved_apart key es ks es_once ks_once)
        (all_append (Costs t z _ _ _ _ _ _ h.tables hz.tables (λ _. 3)) (edges_less key es) (links_at ks) (less_all (Costs t z _ _ _ _ _ _ h.tables hz.tables (λ _. 3)) key es edge_costs)
        (links_all (Costs t z _ _ _ _ _ _ h.tables hz.tables (λ _. 3)) ks link_costs)) ps d

    may_before : MayBeLeft ns ms path left
    may_before = record {
      part = low;
      stays = λ w k e safe. may.stays w k
          (still_number w k e (λ is. safe (let l = ap length is in let m = long in omega arith, is ∙ ap (λ j. take j path) (sym long ∙ ap length (sym is)))))
          (λ c. safe (let l = c.0 in omega arith, c.1));
    }

  new_gone : IsPart ns s.names → AllByRecursion (IsGone s.users s.names less) (own_spots n xs)
  new_gone part =
      let none : path_of less n ≡ None = cond-true (nat_eq n n) None (path_of ns n) (eq-eqb n n refl) in
      let l = link_found ns n dropped.state.link is_last.led in
      let link = link_there s.names h.names n l.first l.back (part_path ns s.names hu.names h.names part n (l.first ∷ l.back) l.path) in
      let found = looked xs xs_once in
      let sized = own_sizes ws u hu p n dropped.state.link is_last dropped.state.led_rows dropped.state.linked_rows dropped.state.edge_rows dropped.state.rows in (
        (p, part_path ns s.names hu.names h.names part n p own_path, none),
        (
          (link.0, link.1, none),
          edges_all (IsGone s.users s.names less) (λ x. (look xs x.0 ≡ Some x.1) × (IsNum x.0 × IsNum x.1)) n xs
              (λ x g.
              let edge = sym (look_is ws u hu p n dropped.state.link is_last dropped.state.led_rows dropped.state.linked_rows dropped.state.edge_rows dropped.state.rows x.0 g.1.0) ∙ g.0 in
              let f = edge_found s.users ns n x.0 x.1 edge in
              let e = edge_there s.users s.names h.names n x.0 f.front (part_path ns s.names hu.names h.names part n f.front f.path) f.user f.apart in
              (e.0, e.1, none))
              (both_facts (λ x. look xs x.0 ≡ Some x.1) (λ x. IsNum x.0 × IsNum x.1) xs found sized),
        ),
      )

  pub spent_more : (steps more first : ℕ) → more ≡ steps + 1 → IsSpent s t ns path left steps first before → IsSpent s t less path at more first now
  spent_more steps more first e spent = record {
    moves = spent.moves + sum_of (λ _. 3) (edges_less key es ++ links_at ks);
    own = spent.own ++ own_spots n xs;
    count = λ small.
        let a = dropped.count small in
        let b = spent.count (omega arith) in
        let c = moved_sum key es ks es_once in
        let d = sum_append weight spent.own (own_spots n xs) in
        let f = own_weighs n xs in
        let g1 = length_map {Y = ℕ × ℕ} (λ (r : (ℕ × ℕ × ℕ) × Unit {0}). (r.0.1, r.0.2)) dropped.state.led_rows in
        let g2 = length_map {Y = ℕ} (λ (r : (ℕ × ℕ) × Unit {0}). r.0.1) dropped.state.linked_rows in
        let g3 = length_map {Y = ℕ × ℕ} (λ (r : (ℕ × ℕ) × ℕ). (r.0.1, r.1)) dropped.state.edge_rows in
        omega (arith, a, b, c, d, f, g1, g2, g3, e);
    many =
        let a = spent.many in
        let d = sum_append weight spent.own (own_spots n xs) in
        let f = own_weighs n xs in
        omega (arith, a, d, f, e);
    apart = apart_append spent.own (own_spots n xs) spent.apart (own_apart n xs xs_once)
        (all_map (IsGone s.users s.names ns) (λ r. AllByRecursion (λ q. r ≢ q) (own_spots n xs)) spent.own
        (λ r g. all_map (λ q. world_of q ≡ n) (λ q. r ≢ q) (own_spots n xs)
        (λ q is same. none_is_some p (sym (gone_world s.users s.names ns r g) ∙ ap (λ (x : Spot). path_of ns (world_of x)) same ∙ ap (path_of ns) is ∙ own_path))
        (own_world (λ k. k ≡ n) n xs refl)) spent.gone);
    gone = all_append (IsGone s.users s.names less) spent.own (own_spots n xs)
        (all_map (IsGone s.users s.names ns) (IsGone s.users s.names less) spent.own (gone_still s.users s.names ns n p) spent.gone) (new_gone spent.part);
    part = λ w k number. spent.part w k (part_less w k number);
    later = λ ms z may hz ps d. subst (λ k. spent.moves + sum_of (λ _. 3) (edges_less key es ++ links_at ks) ≤ k * length ps) (sym e)
        (next_moves steps spent.moves (sum_of (λ _. 3) (edges_less key es ++ links_at ks)) (length ps)
        (spent.later ms z (may_before spent.part ms z may hz) hz ps d) (moved_within spent.part ms z may hz ps d));
  }

-- ---- the loop

-- whichever states the tables held, so much was written for the prefixes that have gone
abbrev pub Spending : Tables → List ℕ → List ℕ → ℕ → ℕ → ℕ → Type 0
Spending t path gone left before now = (s : Worlds) → HoldsStates s.users s.names t → list_all s.users path ≡ true
    → IsSpent s t (without_prefixes s.names path (length path) gone) path left (length gone) before now

pub spending_begins : (t : Tables) (path gone : List ℕ) (left before : ℕ) → gone ≡ [] → Spending t path gone left before before
spending_begins t path gone left before e s h own =
    subst (λ x. IsSpent s t (without_prefixes s.names path (length path) x) path left (length x) before before) (sym e) (spent_none s t path left before before refl)

pub spending_more : (t u : Tables) (path numbers gone : List ℕ) (left : ℕ) (some : 0 < left) (outside : SameElsewhere t u) (shrinking : Shrinking t u path numbers gone left)
    (n at deeper : ℕ) (here : left ≡ at + 1) (is : n ≡ get_or numbers at 0) (deep : deeper ≡ left + 1) (needless : TellsNeeded u n deeper false)
    (v : Tables) (before now : ℕ) (dropped : IsDroppedWithin u v n before now) (more : List ℕ) → more ≡ gone ++ n ∷ [] → (first : ℕ) → Spending t path gone left first before → Spending t path more at first now
spending_more t u path numbers gone left some outside shrinking n at deeper here is deep needless v before now dropped more e first spending s h own =
    let ms = without_prefixes s.names path (length path) gone in
    let w = (shrinking s h own).whole in
    let name = number t u path numbers gone left some outside shrinking s h own n at here is in
    let last = not_longer t u path numbers gone left some outside shrinking s h own n at here is deeper deep needless v before now dropped in
    let names = names_are t u path numbers gone left some outside shrinking s h own n at here is deeper deep needless v before now dropped in
    let next = spent_more s t h ms u (shrinking s h own).states path left at n here (omega arith) name last v before now dropped (length gone) (length (gone ++ n ∷ [])) first (pushed gone n) (spending s h own) in
    subst (λ x. IsSpent s t (without_prefixes s.names path (length path) x) path at (length x) first now) (sym e)
    (subst (λ x. IsSpent s t x path at (length (gone ++ n ∷ [])) first now) (sym names) next)
  where
    pushed : (xs : List ℕ) (x : ℕ) → length (xs ++ x ∷ []) ≡ length xs + 1
    pushed [] x = omega arith
    pushed (y ∷ xs) x = let e = pushed xs x in omega (arith, e)

pub spending_ends : (old new : Seen) (path numbers gone : List ℕ) (left : ℕ) → HoldSome old.kept path → Shrinking old.kept new.kept path numbers gone left → Spending old.kept path gone left old.writes new.writes
    → WritesWithin (length path + 2) old new
spending_ends old new path numbers gone left some shrinking spending ps d =
    let s = some.worlds in
    let now = shrinking s some.states some.own in
    let w = now.whole in
    spent_all s old.kept some.states (without_prefixes s.names path (length path) gone) new.kept path left (length gone) (length path) old.writes new.writes now.states (omega arith) (spending s some.states some.own) ps d

-- ---- the same rows and counts

pub within_after : (times : ℕ) (old mid new : Seen) → new.kept ≡ mid.kept → new.writes ≡ mid.writes → WritesWithin times old mid → WritesWithin times old new
within_after times old mid new e f h ps d = subst (λ w. EndsWithin (times * length ps) old.writes w) (sym f) (h ps (subst (λ x. AreDifferences (tables.get old.kept) (tables.get x) ps) e d))

pub within_before : (times : ℕ) (old mid new : Seen) → mid.kept ≡ old.kept → mid.writes ≡ old.writes → WritesWithin times mid new → WritesWithin times old new
within_before times old mid new e f h ps d =
    subst (λ w. EndsWithin (times * length ps) w new.writes) f (h ps (subst (λ x. AreDifferences (tables.get x) (tables.get new.kept) ps) (sym e) d))

pub within_same : (times : ℕ) (old new : Seen) → new.writes ≡ old.writes → WritesWithin times old new
within_same times old new f ps d small = omega (arith, f)
