-- Reading the edges of one world.
use Rattle.std.proofs.Common.{◌≡◌, ◌∙◌, ℕ, ◌≤◌, ◌<◌, ◌^◌, Bool, true, false, not, nat_eq, cond, List, [], ◌∷◌, ◌++◌, refl, ap, sym, subst, inl, inr, arith, map, Option, Some, None}
use Rattle.std.specs.Option.{is_some}
use Rattle.std.specs.List.{AllByRecursion}
use Rattle.std.specs.Ordering.{is_le, nat_cmp}
use Rattle.std.specs.FinMap as tables
use Rattle.std.proofs.lemmas.Bool.{cases_Bool, and_parts, and_from, or_from, or_parts, false≢true, cond-true, cond-false, eqb-true, ne_eqb, eqb-false, not-true, cases_lt}
use Rattle.std.proofs.lemmas.List.Concat.{flat_map-cons}
use Rattle.bdb_base.proofs.Numbers.{number_le}
use Rattle.bdb_base.specs.Causes.{is_listed}
use Rattle.bdb_keep.specs.Tables.{Tables}
use Rattle.bdb_key.specs.Bytes.{num_bytes}
use Rattle.bdb_key.specs.Grammar.{IsNum}
use Rattle.bdb_tables.specs.Codec.{HasFirst, IsFirst, place}
use Rattle.bdb_tables.specs.InUse.{edge_codec}
use Rattle.bdb_tables.specs.Names.{are_once, edge_of}
use Rattle.bdb_tables.specs.Spans.{AreUnder}
use Rattle.bdb_tables.specs.States.{HoldsStates}
use Rattle.bdb_names.specs.Turned.{look}
use Rattle.bdb_names.proofs.NameLemmas.{edge_found}
use Rattle.bdb_worlds.specs.Dropping.{edges_in_rows}
use Rattle.bdb_worlds.specs.Holding.{Worlds}
use Rattle.bdb_worlds.specs.Owns.{IsNextEdge, HasNextEdge, IsOwnEdge, AreOwnEdges, FindsEdges, edge_beside, edges_beside}
use Rattle.bdb_worlds.proofs.ReadLemmas.{le_parts, le_same, le_number, none_unless}
use Rattle.bdb_worlds.proofs.UnderLemmas.{edges_are, edges_sized, edges_once}

-- ---- the next edge

abbrev pub edge_from_low : ℕ → ℕ → ℕ × ℕ → Bool
edge_from_low wid low key = is_le (edge_codec.key_cmp (wid, low) key)

from_low_is : (wid low j : ℕ) → low ≤ j → edge_from_low wid low (wid, j) ≡ true
from_low_is wid low j l = le_same wid (nat_cmp low j) (number_le low j l)

pub edge_none : (t : Tables) (wid low : ℕ) → IsNum wid → HasFirst edge_codec t (edge_from_low wid low) None → HasNextEdge t wid low None
edge_none t wid low size none j l fits = none (wid, j) (record { first = size; second = fits }) (from_low_is wid low j l)

pub edge_some : (t : Tables) (wid low : ℕ) (key : ℕ × ℕ) (row : ℕ) → IsNum wid → IsFirst edge_codec t (edge_from_low wid low) key row
    → HasNextEdge t wid low (cond (nat_eq key.0 wid) (Some (key.1, row)) None)
edge_some t wid low key row size first = elim (cases_Bool (nat_eq key.0 wid)) [
  | inl same ↦ subst (HasNextEdge t wid low) (sym (cond-true (nat_eq key.0 wid) (Some (key.1, row)) None same)) (own (eqb-true key.0 wid same))
  | inr other ↦ subst (HasNextEdge t wid low) (sym (cond-false (nat_eq key.0 wid) (Some (key.1, row)) None other)) (λ j l fits. none_unless (tables.get t (place edge_codec (wid, j))) (past (eqb-false key.0 wid other) j l fits))
]
  where
    low_is : key.0 ≡ wid → low ≤ key.1
    low_is e = elim (le_parts wid key.0 (nat_cmp low key.1) first.passes) [
      | inl l ↦ absurd (omega arith)
      | inr r ↦ le_number low key.1 r.1
    ]

    none_between : key.0 ≡ wid → (d : ℕ) → low ≤ d → d < key.1 → is_some (tables.get t (place edge_codec (wid, d))) ≡ true → ⊥
    none_between e d l b found =
        let small = first.in_grammar.second in
        elim (le_parts key.0 wid (nat_cmp key.1 d) (first.least (wid, d) (record { first = size; second = omega arith }) (from_low_is wid low d l) found)) [
          | inl lt ↦ absurd (omega arith)
          | inr r ↦ let k = le_number key.1 d r.1 in absurd (omega arith)
        ]

    own : key.0 ≡ wid → IsNextEdge t wid low (key.1, row)
    own e = record {
      fits = first.in_grammar.second;
      target_fits = first.found.in_grammar;
      from = low_is e;
      there = ap (λ a. tables.get t (place edge_codec (a, key.1))) (sym e) ∙ first.found.found;
      least = λ d l b. none_unless (tables.get t (place edge_codec (wid, d))) (none_between e d l b);
    }

    past : (key.0 ≡ wid → ⊥) → (j : ℕ) → low ≤ j → IsNum j → is_some (tables.get t (place edge_codec (wid, j))) ≡ true → ⊥
    past other j l fits found = elim (le_parts wid key.0 (nat_cmp low key.1) first.passes) [
      | inr r ↦ other (sym r.0)
      | inl lt ↦ elim (le_parts key.0 wid (nat_cmp key.1 j) (first.least (wid, j) (record { first = size; second = fits }) (from_low_is wid low j l) found)) [
        | inl gt ↦ absurd (omega arith)
        | inr r ↦ other r.0
      ]
    ]

-- ---- the edges of rows but one

abbrev users_of : List (ℕ × ℕ) → List ℕ
users_of xs = map (λ x. x.0) xs

module _ (uid : ℕ) where
  -- the first row, and then the others
  beside_more : (e : (ℕ × ℕ) × ℕ) (es : List ((ℕ × ℕ) × ℕ)) → edges_beside uid (e ∷ es) ≡ cond (nat_eq e.0.1 uid) (edges_beside uid es) ((e.0.1, e.1) ∷ edges_beside uid es)
  beside_more e es = flat_map-cons (edge_beside uid) e es ∙ by (nat_eq e.0.1 uid)
    where
      by : (b : Bool) → cond b [] ((e.0.1, e.1) ∷ []) ++ edges_beside uid es ≡ cond b (edges_beside uid es) ((e.0.1, e.1) ∷ edges_beside uid es)
      by true = refl
      by false = refl

  looked_if : (b : Bool) (x : ℕ × ℕ) (xs : List (ℕ × ℕ)) (j : ℕ) → look (cond b xs (x ∷ xs)) j ≡ cond b (look xs j) (cond (nat_eq j x.0) (Some x.1) (look xs j))
  looked_if true x xs j = refl
  looked_if false x xs j = refl

  chosen : (a b c : Bool) (own rest left : Option ℕ) → (a ≡ true → b ≡ c) → (a ≡ false → b ≡ true → c ≡ false) → left ≡ cond c None rest → cond a left (cond b own left) ≡ cond c None (cond b own rest)
  chosen true true true own rest left same other h = h
  chosen true true false own rest left same other h = absurd (false≢true (sym (same refl)))
  chosen true false true own rest left same other h = absurd (false≢true (same refl))
  chosen true false false own rest left same other h = h
  chosen false true true own rest left same other h = absurd (false≢true (sym (other refl refl)))
  chosen false true false own rest left same other h = refl
  chosen false false true own rest left same other h = h
  chosen false false false own rest left same other h = h

  none_if : (b : Bool) (o : Option ℕ) → o ≡ None → o ≡ cond b None o
  none_if true o e = e
  none_if false o e = refl

  -- the edge for a user among those that are left
  beside_looked : (es : List ((ℕ × ℕ) × ℕ)) (j : ℕ) → look (edges_beside uid es) j ≡ cond (nat_eq j uid) None (look (edges_in_rows es) j)
  beside_looked [] j = none_if (nat_eq j uid) None refl
  beside_looked (e ∷ es) j =
      ap (λ (xs : List (ℕ × ℕ)). look xs j) (beside_more e es)
      ∙ looked_if (nat_eq e.0.1 uid) (e.0.1, e.1) (edges_beside uid es) j
      ∙ chosen (nat_eq e.0.1 uid) (nat_eq j e.0.1) (nat_eq j uid) (Some e.1) (look (edges_in_rows es) j) (look (edges_beside uid es) j)
      (λ p. ap (nat_eq j) (eqb-true e.0.1 uid p)) (λ p q. ap (λ k. nat_eq k uid) (eqb-true j e.0.1 q) ∙ p) (beside_looked es j)

  beside_sized : (es : List ((ℕ × ℕ) × ℕ)) → AllByRecursion IsOwnEdge (edges_in_rows es) → AllByRecursion IsOwnEdge (edges_beside uid es)
  beside_sized [] h = tt
  beside_sized (e ∷ es) h = subst (AllByRecursion IsOwnEdge) (sym (beside_more e es)) (by (nat_eq e.0.1 uid) (beside_sized es h.1))
    where
      by : (b : Bool) → AllByRecursion IsOwnEdge (edges_beside uid es) → AllByRecursion IsOwnEdge (cond b (edges_beside uid es) ((e.0.1, e.1) ∷ edges_beside uid es))
      by true k = k
      by false k = (h.0, k)

  -- a user who has no edge has none among those that are left
  beside_unlisted : (es : List ((ℕ × ℕ) × ℕ)) (k : ℕ) → is_listed k (users_of (edges_in_rows es)) ≡ false → is_listed k (users_of (edges_beside uid es)) ≡ false
  beside_unlisted [] k h = refl
  beside_unlisted (e ∷ es) k h =
      let p = or_parts (nat_eq k e.0.1) (is_listed k (users_of (edges_in_rows es))) h in
      ap (λ (xs : List (ℕ × ℕ)). is_listed k (users_of xs)) (beside_more e es) ∙ by (nat_eq e.0.1 uid) p.0 (beside_unlisted es k p.1)
    where
      by : (b : Bool) → nat_eq k e.0.1 ≡ false → is_listed k (users_of (edges_beside uid es)) ≡ false → is_listed k (users_of (cond b (edges_beside uid es) ((e.0.1, e.1) ∷ edges_beside uid es))) ≡ false
      by true f g = g
      by false f g = or_from (nat_eq k e.0.1) (is_listed k (users_of (edges_beside uid es))) f g

  beside_once : (es : List ((ℕ × ℕ) × ℕ)) → are_once (users_of (edges_in_rows es)) ≡ true → are_once (users_of (edges_beside uid es)) ≡ true
  beside_once [] h = refl
  beside_once (e ∷ es) h =
      let p = and_parts (not (is_listed e.0.1 (users_of (edges_in_rows es)))) (are_once (users_of (edges_in_rows es))) h in
      ap (λ (xs : List (ℕ × ℕ)). are_once (users_of xs)) (beside_more e es)
      ∙ by (nat_eq e.0.1 uid) (beside_unlisted es e.0.1 (not-true (is_listed e.0.1 (users_of (edges_in_rows es))) p.0)) (beside_once es p.1)
    where
      by : (b : Bool) → is_listed e.0.1 (users_of (edges_beside uid es)) ≡ false → are_once (users_of (edges_beside uid es)) ≡ true
          → are_once (users_of (cond b (edges_beside uid es) ((e.0.1, e.1) ∷ edges_beside uid es))) ≡ true
      by true f g = g
      by false f g = and_from (not (is_listed e.0.1 (users_of (edges_beside uid es)))) (are_once (users_of (edges_beside uid es))) (ap not f) g

-- ---- what the tables have of them

-- edges of users have no other number
none_looked : (xs : List (ℕ × ℕ)) (j : ℕ) → (IsNum j → ⊥) → AllByRecursion IsOwnEdge xs → look xs j ≡ None
none_looked [] j other h = refl
none_looked (x ∷ xs) j other h =
    cond-false (nat_eq j x.0) (Some x.1) (look xs j) (ne_eqb j x.0 (λ e. other (subst IsNum (sym e) h.0.0))) ∙ none_looked xs j other h.1

no_edge : (s : Worlds) (t : Tables) → HoldsStates s.users s.names t → (wid j : ℕ) → (IsNum j → ⊥) → edge_of s.users s.names (wid, j) ≡ None
no_edge s t h wid j other = by (edge_of s.users s.names (wid, j)) refl
  where
    by : (o : Option ℕ) → edge_of s.users s.names (wid, j) ≡ o → edge_of s.users s.names (wid, j) ≡ None
    by None e = e
    by (Some x) e = absurd (other (h.numbers j (edge_found s.users s.names wid j x e).user))

-- the edges of a world but one, by the rows of them all
pub edges_found : (t : Tables) (wid uid : ℕ) (es : List ((ℕ × ℕ) × ℕ)) (edges : List (ℕ × ℕ)) → IsNum wid → AreUnder edge_codec t (num_bytes wid) es → edges ≡ edges_beside uid es → FindsEdges t wid uid edges
edges_found t wid uid es edges fits under is s h = subst (AreOwnEdges s.users s.names wid uid) (sym is) (record {
  leads = λ j. beside_looked uid es j ∙ ap (cond (nat_eq j uid) None) (led j);
  sized = beside_sized uid es sized;
  once = beside_once uid es (edges_once t wid fits es under.each under.sorted);
})
  where
    sized : AllByRecursion IsOwnEdge (edges_in_rows es)
    sized = edges_sized t wid fits es under.each

    led : (j : ℕ) → look (edges_in_rows es) j ≡ edge_of s.users s.names (wid, j)
    led j = elim (cases_lt j (2 ^ 32)) [
      | inl small ↦ edges_are t wid fits (edge_of s.users s.names) h.tables.edge es under j small
      | inr large ↦
          let other : IsNum j → ⊥ = λ k. absurd (omega arith) in
          none_looked (edges_in_rows es) j other sized ∙ sym (no_edge s t h wid j other)
    ]
