-- The places where two tables differ, each once, from the keys of both.
use Rattle.std.proofs.Common.{◌≡◌, ◌≢◌, Bool, true, false, not, cond, ℕ, List, [], ◌∷◌, ◌++◌, Option, Some, None, refl, sym, ap, subst, ◌∙◌, inl, inr}
use Rattle.std.specs.Prelude.{◌||◌}
use Rattle.std.specs.List.{AllByRecursion, list_any}
use Rattle.std.specs.Ordering.{eq_by_cmp}
use Rattle.std.specs.FinMap as tables
use Rattle.std.specs.FinMap.{contains_key-keys}
use Rattle.std.proofs.lemmas.Bool.{cases_Bool, and_from, false≢true, false_from_ne_true}
use Rattle.std.proofs.lemmas.List.Folds.{list_any-append}
use Rattle.bdb_base.specs.Bases.{are_distinct}
use Rattle.bdb_base.specs.Same.{same_text}
use Rattle.bdb_base.specs.SameLemmas.{same_text-Decides}
use Rattle.bdb_base.proofs.OptionLemmas.{none_there}
use Rattle.bdb_keep.specs.Tables.{Tables, bytes_cmp}
use Rattle.bdb_keep.proofs.RowsLemmas.{same_place}
use Rattle.bdb_tables.specs.Differences.{AreDifferences, DifferencesAreListed}
use Rattle.bdb_tables.proofs.DifferenceLemmas.{is_among, false_parts, or_false}

-- two rows are one, or there is none of either
same_row : Option (List ℕ) → Option (List ℕ) → Bool
same_row None None = true
same_row None (Some s) = false
same_row (Some r) None = false
same_row (Some r) (Some s) = same_text r s

same_row_is : (o p : Option (List ℕ)) → same_row o p ≡ true → o ≡ p
unfolding same_row
same_row_is None None e = refl
same_row_is None (Some s) e = absurd (false≢true e)
same_row_is (Some r) None e = absurd (false≢true e)
same_row_is (Some r) (Some s) e = ap Some ((same_text-Decides r s).0 e)

same_row_itself : (o : Option (List ℕ)) → same_row o o ≡ true
unfolding same_row
same_row_itself None = refl
same_row_itself (Some r) = (same_text-Decides r r).1 refl

or_true : (a b : Bool) → b ≡ true → a || b ≡ true
or_true true b e = refl
or_true false b e = e

module _ (f g : List ℕ → Option (List ℕ)) where
  -- a place stands again behind, or both have the same there
  is_left_out : List ℕ → List (List ℕ) → Bool
  is_left_out p ps = is_among p ps || same_row (f p) (g p)

  -- those of some places where both differ, each once
  differing : List (List ℕ) → List (List ℕ)
  differing [] = []
  differing (p ∷ ps) = cond (is_left_out p ps) (differing ps) (p ∷ differing ps)

  left_out : (p : List ℕ) (ps : List (List ℕ)) → is_left_out p ps ≡ true → differing (p ∷ ps) ≡ differing ps
  unfolding differing
  left_out p ps e = ap (λ b. cond b (differing ps) (p ∷ differing ps)) e

  taken : (p : List ℕ) (ps : List (List ℕ)) → is_left_out p ps ≡ false → differing (p ∷ ps) ≡ p ∷ differing ps
  unfolding differing
  taken p ps e = ap (λ b. cond b (differing ps) (p ∷ differing ps)) e

  -- none but these places are among them
  none_else : (q : List ℕ) (ps : List (List ℕ)) → is_among q ps ≡ false → is_among q (differing ps) ≡ false
  unfolding differing
  none_else q [] out = refl
  none_else q (p ∷ ps) out =
      let parts = false_parts (same_text q p) (is_among q ps) out in
      let later = none_else q ps parts.1 in
      elim (cases_Bool (is_left_out p ps)) [
        | inl e ↦ ap (is_among q) (left_out p ps e) ∙ later
        | inr e ↦ ap (is_among q) (taken p ps e) ∙ or_false (same_text q p) (is_among q (differing ps)) parts.0 later
      ]

  once : (ps : List (List ℕ)) → are_distinct (differing ps) ≡ true
  unfolding differing is_left_out
  once [] = refl
  once (p ∷ ps) = elim (cases_Bool (is_left_out p ps)) [
    | inl e ↦ ap are_distinct (left_out p ps e) ∙ once ps
    | inr e ↦ ap are_distinct (taken p ps e)
        ∙ and_from (not (is_among p (differing ps))) (are_distinct (differing ps)) (ap not (none_else p ps (false_parts (is_among p ps) (same_row (f p) (g p)) e).0)) (once ps)
  ]

  each : (ps : List (List ℕ)) → AllByRecursion (λ p. f p ≢ g p) (differing ps)
  unfolding differing is_left_out
  each [] = tt
  each (p ∷ ps) = elim (cases_Bool (is_left_out p ps)) [
    | inl e ↦ subst (AllByRecursion (λ p. f p ≢ g p)) (sym (left_out p ps e)) (each ps)
    | inr e ↦
        let other = (false_parts (is_among p ps) (same_row (f p) (g p)) e).1 in
        let differ : f p ≢ g p = λ same. false≢true (sym other ∙ ap (same_row (f p)) (sym same) ∙ same_row_itself (f p)) in
        subst (AllByRecursion (λ p. f p ≢ g p)) (sym (taken p ps e)) (differ, each ps)
  ]

  -- at a place that is left out both have the same
  all_there : (q : List ℕ) (ps : List (List ℕ)) → is_among q ps ≡ true → is_among q (differing ps) ≡ false → f q ≡ g q
  unfolding differing is_left_out
  all_there q [] here out = absurd (false≢true here)
  all_there q (p ∷ ps) here out = elim (cases_Bool (is_left_out p ps)) [
    | inl e ↦
        let rest = sym (ap (is_among q) (left_out p ps e)) ∙ out in
        elim (cases_Bool (is_among q ps)) [
          | inl again ↦ all_there q ps again rest
          | inr last ↦
              let same = the_first last in
              let both = sym (ap (λ r. is_left_out r ps) same) in
              same_row_is (f q) (g q) (sym (ap (λ b. b || same_row (f q) (g q)) last) ∙ sym both ∙ e)
        ]
    | inr e ↦
        let parts = false_parts (same_text q p) (is_among q (differing ps)) (sym (ap (is_among q) (taken p ps e)) ∙ out) in
        all_there q ps (sym (ap (λ b. b || is_among q ps) parts.0) ∙ here) parts.1
  ]
    where
      the_first : is_among q ps ≡ false → q ≡ p
      the_first last = elim (cases_Bool (same_text q p)) [
        | inl e ↦ (same_text-Decides q p).0 e
        | inr e ↦ absurd (false≢true (sym (or_false (same_text q p) (is_among q ps) e last) ∙ here))
      ]

  -- two look-ups that agree at all other places differ at those
  listed : (ps : List (List ℕ)) → ((q : List ℕ) → is_among q ps ≡ false → f q ≡ g q) → AreDifferences f g (differing ps)
  listed ps others = record {
    once = once ps;
    each = each ps;
    only = λ q out. elim (cases_Bool (is_among q ps)) [
      | inl here ↦ all_there q ps here out
      | inr away ↦ others q away
    ];
  }

-- ---- tables

no_tie : (q : List ℕ) (ps : List (List ℕ)) → is_among q ps ≡ false → list_any (eq_by_cmp bytes_cmp q) ps ≡ false
no_tie q [] out = refl
no_tie q (p ∷ ps) out =
    let parts = false_parts (same_text q p) (is_among q ps) out in
    or_false (eq_by_cmp bytes_cmp q p) (list_any (eq_by_cmp bytes_cmp q) ps)
    (false_from_ne_true (eq_by_cmp bytes_cmp q p) (λ e. false≢true (sym parts.0 ∙ (same_text-Decides q p).1 (same_place q p e))))
    (no_tie q ps parts.1)

-- where a place is no key of tables they have no row
no_key : (t : Tables) (q : List ℕ) → is_among q (tables.keys t) ≡ false → tables.get t q ≡ None
no_key t q out = none_there (tables.get t q) (contains_key-keys t q ∙ no_tie q (tables.keys t) out)

pub tables_differences_are_listed : DifferencesAreListed
tables_differences_are_listed t u =
    let places = tables.keys t ++ tables.keys u in (
      differing (tables.get t) (tables.get u) places,
      listed (tables.get t) (tables.get u) places (λ q out.
          let parts = false_parts (is_among q (tables.keys t)) (is_among q (tables.keys u)) (sym (list_any-append (same_text q) (tables.keys t) (tables.keys u)) ∙ out) in
          no_key t q parts.0 ∙ sym (no_key u q parts.1)),
    )
