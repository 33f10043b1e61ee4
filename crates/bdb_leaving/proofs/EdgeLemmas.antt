-- The edges that lead to worlds, followed from the last user of a path to the first.
use Rattle.std.proofs.Common.{◌≡◌, ◌∙◌, ℕ, suc, ◌-◌, ◌<◌, Bool, true, false, List, [], ◌∷◌, ◌++◌, length, Some, None, is_some, ap, sym, subst, inl, inr, arith, append_assoc, length-append}
use Prim.Native.Nat.{zero}
use Rattle.std.specs.FinMap as tables
use Rattle.std.specs.Ordering.{is_le, nat_cmp, ordering_then}
use Rattle.std.specs.declared.cmp.Ordering.TheVariants.{Less}
use Rattle.std.proofs.lemmas.Bool.{false≢true}
use Rattle.std.proofs.lemmas.Bool.Decides.{nat_tests}
use Rattle.std.proofs.lemmas.List.{append-nil}
use Rattle.bdb_base.specs.Alternation.{alternates}
use Rattle.bdb_base.specs.Bases.{is_user}
use Rattle.bdb_base.specs.Segments.{is_suffix}
use Rattle.bdb_base.specs.States.{deepest_suffix}
use Rattle.bdb_base.proofs.OptionLemmas.{same_some}
use Rattle.bdb_base.proofs.Numbers.{number_le}
use Rattle.bdb_keep.specs.Tables.{Tables}
use Rattle.bdb_names.proofs.Ends.{front_of, length_more, more_is_end}
use Rattle.bdb_names.proofs.NameLemmas.{edge_found, path_is_named}
use Rattle.bdb_names.proofs.NamedLemmas.{cases_end, tables_have_names}
use Rattle.bdb_paths.proofs.SuffixLemmas.{deepest_is_suffix}
use Rattle.bdb_tables.specs.Codec.{HasFirst, IsFirst, place}
use Rattle.bdb_tables.specs.InUse.{IsTriple, led_codec}
use Rattle.bdb_tables.specs.Names.{Names, path_of, is_named, leads_to, edge_of}
use Rattle.bdb_tables.specs.States.{HoldsStates, IsNamed, root, next}
use Rattle.bdb_tables.proofs.Held.{leads_is, row_is}
use Rattle.bdb_worlds.proofs.ReadLemmas.{le_parts, le_same}
use Rattle.bdb_catalog.specs.Bases.{StoresSome}
use Rattle.bdb_leaving.specs.Paths.{IsDeep, IsLed, IsLedBy}

-- ---- the first edge that leads to a world

abbrev pub from_first : ℕ → ℕ × ℕ × ℕ → Bool
from_first wid key = is_le (led_codec.key_cmp (wid, 0, 0) key)

zero_first : (wid from user : ℕ) → from_first wid (wid, from, user) ≡ true
zero_first wid from user = le_same wid (ordering_then (nat_cmp 0 from) (nat_cmp 0 user)) (by from)
  where
    by : (m : ℕ) → is_le (ordering_then (nat_cmp 0 m) (nat_cmp 0 user)) ≡ true
    by zero = le_same 0 (nat_cmp 0 user) (number_le 0 user (omega arith))
    by (suc m) = ap (λ r. is_le (ordering_then r (nat_cmp 0 user))) less
      where
        less : nat_cmp 0 (suc m) ≡ Less
        less = grind (arith, nat_tests)

module _ (t : Tables) (wid : ℕ) (led : IsLed t wid) where
  there : is_some (tables.get t (place led_codec (wid, led.from, led.user))) ≡ true
  there = ap is_some led.by.row

  pub edge_there : HasFirst led_codec t (from_first wid) None → ⊥
  edge_there none = let gone = none (wid, led.from, led.user) led.by.key (zero_first wid led.from led.user) in absurd (false≢true (sym (ap is_some gone) ∙ there))

  pub first_leads : (key : ℕ × ℕ × ℕ) (row : Unit {0}) → IsFirst led_codec t (from_first wid) key row → IsLedBy t wid key.1 key.2
  first_leads key row first = record {
    key = subst (λ n. IsTriple (n, key.1, key.2)) own first.in_grammar;
    row = ap (λ n. tables.get t (place led_codec (n, key.1, key.2))) (sym own) ∙ first.found.found;
  }
    where
      own : key.0 ≡ wid
      own = elim (le_parts wid key.0 (ordering_then (nat_cmp 0 key.1) (nat_cmp 0 key.2)) first.passes) [
        | inr r ↦ sym r.0
        | inl lt ↦ elim (le_parts key.0 wid (ordering_then (nat_cmp key.1 led.from) (nat_cmp key.2 led.user)) (first.least (wid, led.from, led.user) led.by.key (zero_first wid led.from led.user) there)) [
          | inl gt ↦ absurd (omega arith)
          | inr r ↦ r.0
        ]
      ]

-- ---- one edge back

-- an edge leads to the world of every path but the empty one
leads_there : (t : Tables) {n : ℕ} {w : List ℕ} → IsNamed t n w → 0 < length w → IsLed t n
leads_there t root some = absurd (omega arith)
leads_there t (next n m i d w x step) some = record {
  from = m;
  user = i;
  by = record { key = record { first = step.number; second = step.from; third = step.user }; row = step.led };
}

-- users are the last ones of the path of a world, so many are left before them, and the world at a number has a path that ends in those
pub record EndsIn (t : Tables) (wid : ℕ) (users : List ℕ) (at left : ℕ) : Type 0 where
  pub front : List ℕ
  pub above : List ℕ
  pub named : IsNamed t wid (front ++ users)
  pub here : IsNamed t at (above ++ front)
  pub long : length front ≡ left

module _ (t : Tables) (some : StoresSome t) where
  abbrev users : ℕ → Bool
  users = is_user some.base.catalog.users

  abbrev ns : Names
  ns = some.stores.stored.names

  abbrev h : HoldsStates users ns t
  h = some.stores.stored.stored.states

  path_is : (n : ℕ) (w : List ℕ) → IsNamed t n w → path_of ns n ≡ Some w
  path_is n w x = (tables_have_names users ns t h n w).0 x

  -- the path of a world with an edge for a user to another, and the user, end in the other's path
  leads_back : (at from user : ℕ) (w : List ℕ) → IsNamed t at w → IsLedBy t at from user → (p : List ℕ) × IsNamed t from p × (is_suffix w (p ++ user ∷ []) ≡ true)
  leads_back at from user w named led =
      let edge = leads_is (edge_of users ns (from, user)) at (row_is (leads_to (edge_of users ns (from, user)) at) [] (sym (h.tables.led.rows (at, from, user) led.key) ∙ led.row)) in
      let e = edge_found users ns from user at edge in
      let whole = e.front ++ user ∷ [] in
      let same : w ≡ deepest_suffix (is_named ns) whole = same_some _ _ (sym (path_is at w named) ∙ h.names.numbered (deepest_suffix (is_named ns) whole) at e.target) in
      (e.front, (tables_have_names users ns t h from e.front).1 e.path, ap (λ v. is_suffix v whole) same ∙ deepest_is_suffix (is_named ns) whole)

  -- ---- the way back

  pub ends_begin : (row : ℕ × ℕ) → IsDeep t row → EndsIn t row.0 [] row.0 row.1
  ends_begin row d = record { front = d.path; above = []; named = subst (IsNamed t row.0) (sym (append-nil d.path)) d.named; here = d.named; long = d.long }

  module _ (wid : ℕ) (last : List ℕ) (at left : ℕ) (e : EndsIn t wid last at left) where
    pub ends_led : 0 < left → IsLed t at
    ends_led less = let n = e.long in let m = length-append e.above e.front in leads_there t e.here (omega arith)

    pub ends_more : (from user : ℕ) → 0 < left → IsLedBy t at from user → EndsIn t wid (user ∷ last) from (left - 1)
    ends_more from user less led = elim (cases_end e.front) [
      | inl none ↦ let n = e.long in let m = ap length none in absurd (omega arith)
      | inr u ↦ by u.0 u.1 u.2
    ]
      where
        by : (f : List ℕ) (i : ℕ) → e.front ≡ f ++ i ∷ [] → EndsIn t wid (user ∷ last) from (left - 1)
        by f i split =
            let b = leads_back at from user (e.above ++ e.front) e.here led in
            let end : e.above ++ e.front ≡ (e.above ++ f) ++ i ∷ [] = ap (λ w. e.above ++ w) split ∙ sym (append_assoc e.above f (i ∷ [])) in
            let k = more_is_end (e.above ++ f) b.0 i user (ap (λ w. is_suffix w (b.0 ++ user ∷ [])) (sym end) ∙ b.2) in
            let before = front_of (e.above ++ f) b.0 k.1 in
            let whole : e.front ++ last ≡ f ++ (user ∷ last) = ap (λ w. w ++ last) split ∙ append_assoc f (i ∷ []) last ∙ ap (λ j. f ++ (j ∷ last)) k.0 in
            let n = e.long in
            let m = ap length split in
            let more = length_more f i in
            record {
              front = f;
              above = before.0 ++ e.above;
              named = subst (IsNamed t wid) whole e.named;
              here = subst (IsNamed t from) (before.1 ∙ sym (append_assoc before.0 e.above f)) b.1;
              long = omega arith;
            }

    pub ends_all : left ≡ 0 → IsNamed t wid last
    ends_all none = by e.front (e.long ∙ none) e.named
      where
        by : (f : List ℕ) → length f ≡ 0 → IsNamed t wid (f ++ last) → IsNamed t wid last
        by [] n named = named
        by (i ∷ f) n named = absurd (omega arith)

  -- a path has no two neighbours that are equal
  pub named_alternates : (n : ℕ) (w : List ℕ) → IsNamed t n w → alternates w ≡ false → ⊥
  named_alternates n w x e = absurd (false≢true (sym e ∙ h.names.apart w (path_is_named ns h.names n w (path_is n w x))))
