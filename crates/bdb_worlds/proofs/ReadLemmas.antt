-- What reads of the tables of worlds show.
use Rattle.std.proofs.Common.{◌≡◌, ◌∙◌, ℕ, ◌≤◌, ◌<◌, Bool, true, false, nat_eq, cond, [], refl, ap, sym, subst, inl, inr, ◌⊎◌, arith, Option, Some, None}
use Rattle.std.specs.Prelude.{MatchOption}
use Rattle.std.specs.Option.{option_map, is_some}
use Rattle.std.specs.Ordering.{is_le, nat_cmp, ordering_then}
use Rattle.std.specs.declared.cmp.Ordering.{Ordering}
use Rattle.std.specs.FinMap as map
use Rattle.std.proofs.lemmas.Bool.{cases_Bool, false≢true, cond-true, cond-false, eqb-true, eqb-false, cases_order}
use Rattle.bdb_keep.specs.Tables.{Tables}
use Rattle.bdb_key.specs.Grammar.{IsNum}
use Rattle.bdb_base.proofs.Numbers.{greater, equal, number_le}
use Rattle.bdb_tables.specs.Codec.{Codec, HasAt, HasFirst, IsFirst, HasOneRow, TableFits, place}
use Rattle.bdb_tables.specs.Grammar.{InGrammar}
use Rattle.bdb_tables.specs.InUse.{IsPair, depth_codec, link_codec, linked_codec, edge_codec, led_codec}
use Rattle.bdb_tables.specs.InUseLaws.{number_rows_are_one}
use Rattle.bdb_tables.specs.Names.{leads_to}
use Rattle.bdb_tables.specs.States.{TablesAre, row_where}
use Rattle.bdb_tables.specs.Writes.{Gives}
use Rattle.bdb_tables.proofs.Held.{leads_is}
use Rattle.bdb_worlds.specs.Finds.{HasNextChild, IsNextChild}

-- ---- the grammar

pub linked_fit : (t : Tables) → InGrammar t → TableFits linked_codec t
linked_fit t h k r found = h 8 k r found

pub led_fit : (t : Tables) → InGrammar t → TableFits led_codec t
led_fit t h k r found = h 10 k r found

-- ---- one row

-- what is found at a key is what the table has there
pub found_is : {Key Row : Type 0} (c : Codec Key Row) → HasOneRow c → (t : Tables) (f : Key → Option Row) → Gives c t f → (key : Key) → c.IsKey key → (found : Option Row) → HasAt c t key found → found ≡ f key
found_is {Key} {Row} c one t f h key fits found has = by found (f key) has (h.rows key fits) (h.written key fits)
  where
    by : (x y : Option Row) → HasAt c t key x → map.get t (place c key) ≡ option_map c.row_bytes y → MatchOption y (Unit {0}) c.IsRow → x ≡ y
    by None None a e w = refl
    by None (Some y) a e w = let g : None ≡ Some (c.row_bytes y) = sym a ∙ e in absurd cc
    by (Some x) None a e w = let g : Some (c.row_bytes x) ≡ None = sym a.found ∙ e in absurd cc
    by (Some x) (Some y) a e w = let g : Some (c.row_bytes x) ≡ Some (c.row_bytes y) = sym a.found ∙ e in let b : c.row_bytes x ≡ c.row_bytes y = cc in ap Some (one x y a.in_grammar w b)

-- what is found at the key of an edge is what the edge leads to
pub edge_read : (t : Tables) (d l : ℕ → Option ℕ) (e : ℕ × ℕ → Option ℕ) → TablesAre t d l e → (key : ℕ × ℕ) → IsPair key → (found : Option ℕ) → HasAt edge_codec t key found → found ≡ e key
edge_read t d l e h key fits found has = found_is edge_codec number_rows_are_one t e h.edge key fits found has

pub link_read : (t : Tables) (d l : ℕ → Option ℕ) (e : ℕ × ℕ → Option ℕ) → TablesAre t d l e → (k : ℕ) → IsNum k → (found : Option ℕ) → HasAt link_codec t k found → found ≡ l k
link_read t d l e h k fits found has = found_is link_codec number_rows_are_one t l h.link k fits found has

pub depth_read : (t : Tables) (d l : ℕ → Option ℕ) (e : ℕ × ℕ → Option ℕ) → TablesAre t d l e → (k : ℕ) → IsNum k → (found : Option ℕ) → HasAt depth_codec t k found → found ≡ d k
depth_read t d l e h k fits found has = found_is depth_codec number_rows_are_one t d h.depth k fits found has

-- ---- orders of keys

-- a key that isn't above another has a smaller first number, or the same one and a second part that isn't above
pub le_parts : (a b : ℕ) (o : Ordering) → is_le (ordering_then (nat_cmp a b) o) ≡ true → (a < b) ⊎ ((a ≡ b) × (is_le o ≡ true))
le_parts a b o h = elim (cases_order a b) [
  | inl e ↦ inr (e, ap (λ x. is_le (ordering_then x o)) (sym (ap (λ x. nat_cmp x b) e ∙ equal b)) ∙ h)
  | inr r ↦ elim r [
    | inl lt ↦ inl lt
    | inr gt ↦ absurd (false≢true (ap (λ x. is_le (ordering_then x o)) (sym (greater a b gt)) ∙ h))
  ]
]

pub le_same : (a : ℕ) (o : Ordering) → is_le o ≡ true → is_le (ordering_then (nat_cmp a a) o) ≡ true
le_same a o h = ap (λ x. is_le (ordering_then x o)) (equal a) ∙ h

pub le_number : (a b : ℕ) → is_le (nat_cmp a b) ≡ true → a ≤ b
le_number a b h = elim (cases_order a b) [
  | inl e ↦ omega arith
  | inr r ↦ elim r [
    | inl lt ↦ omega arith
    | inr gt ↦ absurd (false≢true (ap is_le (sym (greater a b gt)) ∙ h))
  ]
]

pub none_unless : {X : Type 0} (o : Option X) → (is_some o ≡ true → ⊥) → o ≡ None
none_unless None h = refl
none_unless (Some x) h = absurd (h refl)

-- ---- children

abbrev pub from_low : ℕ → ℕ → ℕ × ℕ → Bool
from_low wid low key = is_le (linked_codec.key_cmp (wid, low) key)

from_low_is : (wid low c : ℕ) → low ≤ c → from_low wid low (wid, c) ≡ true
from_low_is wid low c l = le_same wid (nat_cmp low c) (number_le low c l)

pub child_none : (t : Tables) (wid low : ℕ) → IsNum wid → HasFirst linked_codec t (from_low wid low) None → HasNextChild t wid low None
child_none t wid low size none c l fits = none (wid, c) (record { first = size; second = fits }) (from_low_is wid low c l)

pub child_some : (t : Tables) (wid low : ℕ) (key : ℕ × ℕ) (row : Unit {0}) → IsNum wid → IsFirst linked_codec t (from_low wid low) key row
    → HasNextChild t wid low (cond (nat_eq key.0 wid) (Some key.1) None)
child_some t wid low key row size first = elim (cases_Bool (nat_eq key.0 wid)) [
  | inl same ↦ subst (HasNextChild t wid low) (sym (cond-true (nat_eq key.0 wid) (Some key.1) None same)) (own (eqb-true key.0 wid same))
  | inr other ↦ subst (HasNextChild t wid low) (sym (cond-false (nat_eq key.0 wid) (Some key.1) None other)) (λ c l fits. none_unless (map.get t (place linked_codec (wid, c))) (past (eqb-false key.0 wid other) c l fits))
]
  where
    pair : ℕ → ℕ × ℕ
    pair a = (a, key.1)

    low_is : key.0 ≡ wid → low ≤ key.1
    low_is e = elim (le_parts wid key.0 (nat_cmp low key.1) first.passes) [
      | inl l ↦ absurd (omega arith)
      | inr r ↦ le_number low key.1 r.1
    ]

    none_between : key.0 ≡ wid → (d : ℕ) → low ≤ d → d < key.1 → is_some (map.get t (place linked_codec (wid, d))) ≡ true → ⊥
    none_between e d l b found =
        let small = first.in_grammar.second in
        elim (le_parts key.0 wid (nat_cmp key.1 d) (first.least (wid, d) (record { first = size; second = omega arith }) (from_low_is wid low d l) found)) [
          | inl lt ↦ absurd (omega arith)
          | inr r ↦ let k = le_number key.1 d r.1 in absurd (omega arith)
        ]

    own : key.0 ≡ wid → IsNextChild t wid low key.1
    own e = record {
      fits = first.in_grammar.second;
      from = low_is e;
      linked = ap (λ a. map.get t (place linked_codec (a, key.1))) (sym e) ∙ first.found.found;
      least = λ d l b. none_unless (map.get t (place linked_codec (wid, d))) (none_between e d l b);
    }

    past : (key.0 ≡ wid → ⊥) → (c : ℕ) → low ≤ c → IsNum c → is_some (map.get t (place linked_codec (wid, c))) ≡ true → ⊥
    past other c l fits found = elim (le_parts wid key.0 (nat_cmp low key.1) first.passes) [
      | inr r ↦ other (sym r.0)
      | inl lt ↦ elim (le_parts key.0 wid (nat_cmp key.1 c) (first.least (wid, c) (record { first = size; second = fits }) (from_low_is wid low c l) found)) [
        | inl gt ↦ absurd (omega arith)
        | inr r ↦ other r.0
      ]
    ]

-- a turned row is there exactly where the link leads so
row_there_is : (b : Bool) → option_map linked_codec.row_bytes (row_where b) ≡ Some [] → b ≡ true
row_there_is true e = refl
row_there_is false e = absurd cc

row_gone_is : (b : Bool) → option_map linked_codec.row_bytes (row_where b) ≡ None → b ≡ false
row_gone_is true e = absurd cc
row_gone_is false e = refl

leads_not : (o : Option ℕ) (n : ℕ) → leads_to o n ≡ false → o ≡ Some n → ⊥
leads_not None n h e = absurd cc
leads_not (Some m) n h e = eqb-false m n h (let x : m ≡ n = cc in x)

pub linked_is : (t : Tables) (d l : ℕ → Option ℕ) (e : ℕ × ℕ → Option ℕ) → TablesAre t d l e → (wid c : ℕ) → IsNum wid → IsNum c → map.get t (place linked_codec (wid, c)) ≡ Some [] → l c ≡ Some wid
linked_is t d l e h wid c fw fc there = leads_is (l c) wid (row_there_is (leads_to (l c) wid) (sym (h.linked.rows (wid, c) (record { first = fw; second = fc })) ∙ there))

pub not_linked : (t : Tables) (d l : ℕ → Option ℕ) (e : ℕ × ℕ → Option ℕ) → TablesAre t d l e → (wid c : ℕ) → IsNum wid → IsNum c → map.get t (place linked_codec (wid, c)) ≡ None → l c ≡ Some wid → ⊥
not_linked t d l e h wid c fw fc gone = leads_not (l c) wid (row_gone_is (leads_to (l c) wid) (sym (h.linked.rows (wid, c) (record { first = fw; second = fc })) ∙ gone))
