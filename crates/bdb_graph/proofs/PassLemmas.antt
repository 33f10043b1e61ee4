-- Rows of a table, each compared with what a function gives, and keys that pass a test one after the other.
use Rattle.std.proofs.Common.{◌≡◌, ◌∙◌, ℕ, Bool, true, false, List, [], ◌∷◌, ◌++◌, Option, Some, None, is_some, map, refl, ap, sym, subst, inl, inr}
use Rattle.std.specs.Prelude.{MatchOption}
use Rattle.std.specs.Bool.{MatchBool}
use Rattle.std.specs.List.{AllByRecursion}
use Rattle.std.specs.Option.{option_map}
use Rattle.std.specs.Ordering.{eq_by_cmp}
use Rattle.std.specs.FinMap as tables
use Rattle.std.specs.FinMap.{find}
use Rattle.std.proofs.lemmas.Bool.{cases_Bool, cond-false, eqb-true, eq-eqb, false≢true}
use Rattle.bdb_base.proofs.OptionLemmas.{none_is_some, same_some}
use Rattle.bdb_keep.specs.Tables.{Tables, bytes_cmp}
use Rattle.bdb_keep.proofs.RowsLemmas.{same_place}
use Rattle.bdb_key.proofs.Readings.{all_push}
use Rattle.bdb_tables.specs.Codec.{Codec, HasAt, HasOneKey, HasOneRow, place}
use Rattle.bdb_tables.specs.Spans.{IsNextUnder, IsUnder, NoneUnder, entry_bytes}
use Rattle.bdb_tables.proofs.SpanLemmas.{Covers, covers_all, covers_more, covers_none}
use Rattle.bdb_entries.proofs.ReadLemmas.{none_told, some_told}
use Rattle.bdb_graph.specs.States.{AllKeysPass, GivesAt, HasNextKey, TellsKey, is_right}

-- ---- one row

right_is : (found right : Option ℕ) → is_right found right ≡ true → found ≡ right
right_is None None e = refl
right_is None (Some n) e = absurd (false≢true e)
right_is (Some m) None e = absurd (false≢true e)
right_is (Some m) (Some n) e = ap Some (sym (eqb-true n m e))

right_itself : (o : Option ℕ) → is_right o o ≡ true
right_itself None = refl
right_itself (Some n) = eq-eqb n n refl

module _ {Key : Type 0} (c : Codec Key ℕ) (one : HasOneRow c) (t : Tables) (k : Key) where
  found_at : (found : Option ℕ) → HasAt c t k found → tables.get t (place c k) ≡ option_map c.row_bytes found
  found_at None h = h
  found_at (Some x) h = h.found

  same_found : (found right : Option ℕ) → HasAt c t k found → MatchOption right (Unit {0}) c.IsRow → tables.get t (place c k) ≡ option_map c.row_bytes right → found ≡ right
  same_found None None h fits e = refl
  same_found None (Some n) h fits e = absurd (none_is_some (c.row_bytes n) (sym h ∙ e))
  same_found (Some m) None h fits e = absurd (none_is_some (c.row_bytes m) (sym e ∙ h.found))
  same_found (Some m) (Some n) h fits e = ap Some (one m n h.in_grammar fits (same_some (c.row_bytes m) (c.row_bytes n) (sym h.found ∙ e)))

  -- a row is what a function gives where it is what was found
  pub row_told : (f : Key → Option ℕ) (found right : Option ℕ) (b : Bool) → HasAt c t k found → f k ≡ right → MatchOption right (Unit {0}) c.IsRow → b ≡ is_right found right
      → MatchBool b (GivesAt c t f k) (GivesAt c t f k → ⊥)
  row_told f found right b h is fits told = subst (λ v. MatchBool v (GivesAt c t f k) (GivesAt c t f k → ⊥)) (sym told) (by (is_right found right) refl)
    where
      by : (v : Bool) → is_right found right ≡ v → MatchBool v (GivesAt c t f k) (GivesAt c t f k → ⊥)
      by true e = found_at found h ∙ ap (option_map c.row_bytes) (right_is found right e ∙ sym is)
      by false e = λ gives.
          let same : found ≡ right = same_found found right h fits (gives ∙ ap (option_map c.row_bytes) is) in
          false≢true (sym e ∙ ap (λ o. is_right o right) same ∙ right_itself right)

-- ---- keys

module _ {Key Row : Type 0} (c : Codec Key Row) (p : Key → Bool) where
  -- the keys of the rows below some bytes pass a test
  pub record PassedKeys (t : Tables) (low : List ℕ) : Type 0 where
    pub rows : List (Key × Row)
    pub covers : Covers c t [] low rows
    pub pass : AllByRecursion (λ (e : Key × Row). p e.0 ≡ true) rows

  pub keys_none : (t : Tables) (low : List ℕ) → low ≡ [] → PassedKeys t low
  keys_none t low e = subst (PassedKeys t) (sym e) (record { rows = []; covers = covers_none c t [] [] refl; pass = tt })

  pub keys_more : (t u : Tables) (low behind : List ℕ) (found : Option Bool) (b : Bool) → u ≡ t → found ≡ Some b → b ≡ true → PassedKeys t low → HasNextKey c u p low behind found → PassedKeys t behind
  keys_more t u low behind found b same is good h next =
      let n = some_told _ (TellsKey c u p low behind) found b is next in
      record {
        rows = h.rows ++ n.entry ∷ [];
        covers = covers_more c t [] low behind h.rows n.entry h.covers (subst (λ v. IsNextUnder c v [] low behind n.entry) same n.next);
        pass = all_push (λ (e : Key × Row). p e.0 ≡ true) h.rows n.entry h.pass (sym n.told ∙ good);
      }

  -- a row that is found is one of those that are listed
  entry_of : (es : List (Key × Row)) → AllByRecursion (IsUnder c []) es → AllByRecursion (λ (e : Key × Row). p e.0 ≡ true) es → (q : List ℕ)
      → is_some (find bytes_cmp q (map (entry_bytes c) es)) ≡ true → (e : Key × Row) × (c.IsKey e.0) × (p e.0 ≡ true) × (q ≡ c.key_bytes e.0)
  entry_of [] a h q s = absurd (false≢true s)
  entry_of (e ∷ es) a h q s = elim (cases_Bool (eq_by_cmp bytes_cmp q (c.key_bytes e.0))) [
    | inl b ↦ (e, a.0.key, h.0, same_place q (c.key_bytes e.0) b)
    | inr b ↦ entry_of es a.1 h.1 q
        (ap is_some (sym (cond-false (eq_by_cmp bytes_cmp q (c.key_bytes e.0)) (Some (c.row_bytes e.1)) (find bytes_cmp q (map (entry_bytes c) es)) b)) ∙ s)
  ]

  pub keys_all : HasOneKey c → (t u : Tables) (low behind : List ℕ) (found : Option Bool) → u ≡ t → found ≡ None → PassedKeys t low → HasNextKey c u p low behind found → AllKeysPass c t p
  keys_all one t u low behind found same is h next k fits s =
      let under = covers_all c t [] low h.rows h.covers (subst (λ w. NoneUnder c w [] low) same (none_told _ (TellsKey c u p low behind) found is next)) in
      let e = entry_of h.rows h.covers.each h.pass (c.key_bytes k) (sym (ap is_some (under.found (c.key_bytes k) refl)) ∙ s) in
      ap p (one k e.0.0 fits e.1 e.3) ∙ e.2

  pub not_all_keys : (t u : Tables) (low behind : List ℕ) (found : Option Bool) (b : Bool) → u ≡ t → found ≡ Some b → b ≡ false → HasNextKey c u p low behind found → AllKeysPass c t p → ⊥
  not_all_keys t u low behind found b same is bad next h =
      let n = some_told _ (TellsKey c u p low behind) found b is next in
      false≢true (sym (sym n.told ∙ bad) ∙ subst (λ v. AllKeysPass c v p) (sym same) h n.entry.0 n.next.under.key (ap is_some n.next.least.found))

  -- a key that doesn't pass has no row
  pub no_row : (t : Tables) (k : Key) → c.IsKey k → AllKeysPass c t p → p k ≡ false → tables.get t (place c k) ≡ None
  no_row t k fits h bad = by (tables.get t (place c k)) refl
    where
      by : (o : Option (List ℕ)) → tables.get t (place c k) ≡ o → tables.get t (place c k) ≡ None
      by None e = e
      by (Some r) e = absurd (false≢true (sym bad ∙ h k fits (ap is_some e)))
