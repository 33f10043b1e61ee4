-- How many worlds have numbers below the one that a loop has come to.
use Rattle.std.proofs.Common.{◌≡◌, ◌∙◌, ℕ, ◌+◌, ◌*◌, ◌≤◌, ◌<◌, true, false, not, ◌||◌, nat_eq, nat_lt, cond, List, [], ◌∷◌, length, Option, Some, None, is_some, inl, inr, refl, ap, sym, arith}
use Rattle.std.specs.FinMap as tables
use Rattle.std.proofs.lemmas.Bool.{cases_Bool, cases_lt, and_parts, or_left, or_right, false≢true, lt-ltb, le-ltb, eqb-true, eqb-false, eq-eqb, not-true, or_parts}
use Rattle.bdb_base.specs.Causes.{Rises, is_listed}
use Rattle.bdb_keep.specs.Seen.{Seen}
use Rattle.bdb_keep.specs.Tables.{Tables}
use Rattle.bdb_key.specs.Grammar.{IsNum}
use Rattle.bdb_tables.specs.Codec.{place}
use Rattle.bdb_tables.specs.InUse.{depth_codec}
use Rattle.bdb_tables.specs.Names.{Names, AreNames, path_of, depth_of, are_once}
use Rattle.bdb_tables.specs.States.{HoldsStates}
use Rattle.bdb_tables.specs.Writes.{Gives}
use Rattle.bdb_worlds.specs.Holding.{Worlds}
use Rattle.bdb_worlds.specs.UserEdges.{IsNextNumber, HasNextNumber, WritesEdges}
use Rattle.bdb_worlds.proofs.UserEdgeLemmas.{UserAddedTo, path_absent, path_present}

-- one, where a number is below another
abbrev one_below : ℕ → ℕ → ℕ
one_below k n = cond (nat_lt k n) 1 0

-- how many of these are below a number
abbrev pub below : ℕ → List ℕ → ℕ
below n [] = 0
below n (k ∷ ks) = one_below k n + below n ks

pub none_below : (ks : List ℕ) → below 0 ks ≡ 0
none_below [] = refl
none_below (k ∷ ks) =
    let one : one_below k 0 ≡ 0 = ap (λ b. cond b 1 0) (le-ltb k 0 (omega arith)) in
    let rest = none_below ks in
    omega (arith, one, rest)

all_below : (low : ℕ) (ks : List ℕ) → ((k : ℕ) → is_listed k ks ≡ true → k < low) → below low ks ≡ length ks
all_below low [] h = refl
all_below low (k ∷ ks) h =
    let one : one_below k low ≡ 1 = ap (λ b. cond b 1 0) (lt-ltb k low (h k (or_left (nat_eq k k) (is_listed k ks) (eq-eqb k k refl)))) in
    let rest = all_below low ks (λ j l. h j (or_right (nat_eq j k) (is_listed j ks) l)) in
    omega (arith, one, rest)

-- a number that isn't from `low` on below `wid`, nor `wid`, is below both or neither
same_one : (k low wid : ℕ) → low ≤ wid → nat_eq wid k ≡ false → (low ≤ k → k < wid → ⊥) → one_below k (wid + 1) ≡ one_below k low
same_one k low wid le other out =
    let d = eqb-false wid k other in
    elim (cases_lt k low) [
      | inl lt ↦ ap (λ b. cond b 1 0) (lt-ltb k (wid + 1) (omega arith)) ∙ sym (ap (λ b. cond b 1 0) (lt-ltb k low lt))
      | inr ge ↦ elim (cases_lt k wid) [
        | inl lt ↦ absurd (out ge lt)
        | inr above ↦ ap (λ b. cond b 1 0) (le-ltb k (wid + 1) (omega (arith, d))) ∙ sym (ap (λ b. cond b 1 0) (le-ltb k low ge))
      ]
    ]

module _ (low wid : ℕ) (le : low ≤ wid) where
  same_below : (ks : List ℕ) → is_listed wid ks ≡ false → ((k : ℕ) → is_listed k ks ≡ true → low ≤ k → k < wid → ⊥) → below (wid + 1) ks ≡ below low ks
  same_below [] out h = refl
  same_below (k ∷ ks) out h =
      let p = or_parts (nat_eq wid k) (is_listed wid ks) out in
      let one = same_one k low wid le p.0 (h k (or_left (nat_eq k k) (is_listed k ks) (eq-eqb k k refl))) in
      let rest = same_below ks p.1 (λ j l. h j (or_right (nat_eq j k) (is_listed j ks) l)) in
      omega (arith, one, rest)

  one_more : (ks : List ℕ) → are_once ks ≡ true → is_listed wid ks ≡ true → ((k : ℕ) → is_listed k ks ≡ true → low ≤ k → k < wid → ⊥) → below (wid + 1) ks ≡ below low ks + 1
  one_more [] once l h = absurd (false≢true l)
  one_more (k ∷ ks) once l h = elim (cases_Bool (nat_eq wid k)) [
    | inl e ↦
        let same : wid ≡ k = eqb-true wid k e in
        let out : is_listed wid ks ≡ false = ap (λ j. is_listed j ks) same ∙ not-true (is_listed k ks) p.0 in
        let high : one_below k (wid + 1) ≡ 1 = ap (λ b. cond b 1 0) (lt-ltb k (wid + 1) (omega arith)) in
        let none : one_below k low ≡ 0 = ap (λ b. cond b 1 0) (le-ltb k low (omega arith)) in
        let rest = same_below ks out (λ j l. h j (or_right (nat_eq j k) (is_listed j ks) l)) in
        omega (arith, high, none, rest)
    | inr e ↦
        let one = same_one k low wid le e (h k (or_left (nat_eq k k) (is_listed k ks) (eq-eqb k k refl))) in
        let rest = one_more ks p.1 (sym (ap (λ b. b || is_listed wid ks) e) ∙ l) (λ j l. h j (or_right (nat_eq j k) (is_listed j ks) l)) in
        omega (arith, one, rest)
  ]
    where
      p : (not (is_listed k ks) ≡ true) × (are_once ks ≡ true)
      p = and_parts (not (is_listed k ks)) (are_once ks) once

-- ---- the loop

listed_small : (ns : Names) → AreNames ns → (k : ℕ) → is_listed k ns.used ≡ true → IsNum k
listed_small ns h k l = by (path_of ns k) refl (sym (h.counted k) ∙ l)
  where
    by : (o : Option (List ℕ)) → path_of ns k ≡ o → is_some (path_of ns k) ≡ true → IsNum k
    by None e i = absurd (false≢true (sym (ap is_some e) ∙ i))
    by (Some w) e i = h.sized w k (h.named k w e)

-- the names whose depths the tables have
module _ (u : Tables) (ns : Names) (names : AreNames ns) (depths : Gives depth_codec u (depth_of ns)) where
  -- a number of which not-true depth is stored isn't listed
  not_listed : (k : ℕ) → is_listed k ns.used ≡ true → tables.get u (place depth_codec k) ≡ None → ⊥
  not_listed k l gone =
      let small = listed_small ns names k l in
      false≢true (sym (ap is_some (path_absent (path_of ns k) (sym (depths.rows k small) ∙ gone))) ∙ sym (names.counted k) ∙ l)

  pub below_more : (low wid high : ℕ) → high ≡ wid + 1 → IsNextNumber u low wid → below high ns.used ≡ below low ns.used + 1
  below_more low wid high is next =
      let there : is_listed wid ns.used ≡ true =
      names.counted wid ∙ path_present (path_of ns wid) (ap is_some (sym (depths.rows wid next.fits)) ∙ next.there) in
      ap (λ n. below n ns.used) is ∙ one_more low wid next.from ns.used names.once there (λ k l a b. not_listed k l (next.least k a b))

  pub below_ends : (low : ℕ) → HasNextNumber u low None → below low ns.used ≡ length ns.used
  below_ends low none = all_below low ns.used under
    where
      under : (k : ℕ) → is_listed k ns.used ≡ true → k < low
      under k l = elim (cases_lt k low) [
        | inl lt ↦ lt
        | inr ge ↦ absurd (not_listed k l (none k ge (listed_small ns names k l)))
      ]

-- two writes were made for each world with a number below `low`
abbrev pub EdgesWritten : Seen → Seen → ℕ → ℕ → Type 0
EdgesWritten old new uid low = (s : Worlds) → HoldsStates s.users s.names old.kept → s.users uid ≡ false → Rises (2 * below low s.names.used) old.writes new.writes

pub twice_none : (n a : ℕ) → n ≡ 0 → Rises (2 * n) a a
twice_none n a e less = omega arith

pub twice_more : (n m a b c : ℕ) → b ≤ c → m ≡ n + 1 → Rises (2 * n) a b → Rises 2 b c → Rises (2 * m) a c
twice_more n m a b c le more before two less = let d = two less in let e = before (omega arith) in omega arith

pub twice_all : (n m a b : ℕ) → n ≡ m → Rises (2 * n) a b → Rises (2 * m) a b
twice_all n m a b e h less = let d = h less in omega arith

pub edges_begin : (old : Seen) (uid : ℕ) → EdgesWritten old old uid 0
edges_begin old uid s h new = twice_none (below 0 s.names.used) old.writes (none_below s.names.used)

module _ (old : Seen) (u : Tables) (uid low : ℕ) (so_far : UserAddedTo old.kept u uid low) where
  pub edges_more : (mid now : Seen) (wid high : ℕ) → high ≡ wid + 1 → IsNextNumber u low wid → mid.writes ≤ now.writes → EdgesWritten old mid uid low → Rises 2 mid.writes now.writes → EdgesWritten old now uid high
  edges_more mid now wid high is next le before two s h new =
      twice_more (below low s.names.used) (below high s.names.used) old.writes mid.writes now.writes le
      (below_more u s.names h.names (so_far s h new).depth low wid high is next) (before s h new) two

  pub edges_end : (now : Seen) → HasNextNumber u low None → EdgesWritten old now uid low → WritesEdges old now uid
  edges_end now none before s h new =
      twice_all (below low s.names.used) (length s.names.used) old.writes now.writes (below_ends u s.names h.names (so_far s h new).depth low none) (before s h new)
