-- Where parts of tables differ, and how many of these places there are at most.
use Rattle.std.proofs.Common.{◌≡◌, ◌≢◌, ◌∙◌, ℕ, ◌+◌, ◌≤◌, Bool, true, false, not, nat_eq, cond, List, [], ◌∷◌, ◌++◌, ◌⊎◌, length, filter, Option, None, refl, sym, ap, arith, inl, inr}
use Rattle.std.specs.List.{AllByRecursion}
use Rattle.std.specs.FinMap as tables
use Rattle.std.proofs.lemmas.Bool.{cases_Bool, false≢true, false_from_ne_true, or_left, or_right, or_cases, cond-true, cond-false, eqb-true, not-true, or_parts}
use Rattle.std.proofs.lemmas.List.Folds.{list_any-append}
use Rattle.bdb_base.specs.Bases.{are_distinct}
use Rattle.bdb_base.specs.Same.{same_text}
use Rattle.bdb_base.specs.SameLemmas.{same_text-Decides}
use Rattle.bdb_base.proofs.BoolLemmas.{not_twice}
use Rattle.bdb_keep.specs.Tables.{Tables}
use Rattle.bdb_tables.specs.Differences.{AreDifferences}
use Rattle.bdb_tables.proofs.DifferenceLemmas.{is_among, no_more, distinct_append}
use Rattle.bdb_val.specs.Others.{SamePlacesBut, is_in}
use Rattle.bdb_update.specs.Bounds.{part_at}
use Rattle.bdb_update.specs.Tallies.{HasRowCount, vals_at, nothing_at}
use Rattle.bdb_update.proofs.TallyLemmas.{Places, rows_alone, filter_parts, filter_distinct, among_passing, all_filter, all_of, all_weaker, all_among, length_append, same_row, same_row_is, same_row_from}

abbrev pub Look : Type 0
Look = List ℕ → Option (List ℕ)

-- look-ups that answer alike differ at the same places
pub differences_like : (f g h k : Look) (ps : Places) → ((q : List ℕ) → h q ≡ f q) → ((q : List ℕ) → k q ≡ g q) → AreDifferences f g ps → AreDifferences h k ps
differences_like f g h k ps a b d = record {
  once = d.once;
  each = all_weaker (λ p. f p ≢ g p) (λ p. h p ≢ k p) (λ p n e. n (sym (a p) ∙ e ∙ b p)) ps d.each;
  only = λ q out. a q ∙ d.only q out ∙ sym (b q);
}

-- ---- the places where two look-ups differ that each answer at some places alone

pub passing : (p : List ℕ → Bool) (q : List ℕ) (xs : Places) → is_among q (filter p xs) ≡ true → p q ≡ true
passing p q [] e = absurd (false≢true e)
passing p q (x ∷ xs) e = by (p x) refl e (passing p q xs)
  where
    by : (c : Bool) → p x ≡ c → is_among q (cond c (x ∷ filter p xs) (filter p xs)) ≡ true → (is_among q (filter p xs) ≡ true → p q ≡ true) → p q ≡ true
    by true k f r = elim (or_cases (same_text q x) (is_among q (filter p xs)) f) [ inl z ↦ ap p ((same_text-Decides q x).0 z) ∙ k | inr z ↦ r z ]
    by false k f r = r f

module _ (f g : Look) (cs bs : Places) (a : AreDifferences f nothing_at cs) (b : AreDifferences g nothing_at bs) where
  abbrev fresh : List ℕ → Bool
  fresh q = not (is_among q cs)

  abbrev differs : List ℕ → Bool
  differs q = not (same_row (f q) (g q))

  abbrev either : Places
  either = cs ++ filter fresh bs

  abbrev pub between : Places
  between = filter differs either

  apart : AllByRecursion (λ p. is_among p (filter fresh bs) ≡ false) cs
  apart = all_weaker (λ p. is_among p cs ≡ true) (λ p. is_among p (filter fresh bs) ≡ false)
      (λ p here. false_from_ne_true (is_among p (filter fresh bs)) (λ e. false≢true (sym (not-true (is_among p cs) (passing fresh p bs e)) ∙ here))) cs (all_among cs)

  alike : (q : List ℕ) → differs q ≡ false → f q ≡ g q
  alike q e = same_row_is (f q) (g q) (sym (not_twice (same_row (f q) (g q))) ∙ ap not e)

  unlike : (q : List ℕ) → differs q ≡ true → f q ≢ g q
  unlike q e s = false≢true (sym (ap not (same_row_from (f q) (g q) s)) ∙ e)

  none_at : (q : List ℕ) → is_among q either ≡ false → f q ≡ g q
  none_at q out =
      let parts = or_parts (is_among q cs) (is_among q (filter fresh bs)) (sym (list_any-append (same_text q) cs (filter fresh bs)) ∙ out) in
      let absent : is_among q bs ≡ false = false_from_ne_true (is_among q bs) (λ e. false≢true (sym parts.1 ∙ among_passing fresh q bs e (ap not parts.0))) in
      a.only q parts.0 ∙ sym (b.only q absent)

  pub are_between : AreDifferences f g between
  are_between = record {
    once = filter_distinct differs either (distinct_append cs (filter fresh bs) a.once (filter_distinct fresh bs b.once) apart);
    each = all_filter (λ q. f q ≢ g q) differs either (all_of (λ q. differs q ≡ true → f q ≢ g q) unlike either);
    only = λ q out. elim (cases_Bool (differs q)) [
      | inr e ↦ alike q e
      | inl e ↦ none_at q (false_from_ne_true (is_among q either) (λ h. false≢true (sym out ∙ among_passing differs q either h e)))
    ];
  }

-- ---- parts of tables

module _ (test : List ℕ → Bool) where
  in_part : (t : Tables) (q : List ℕ) → test q ≡ true → part_at test t q ≡ tables.get t q
  in_part t q e = cond-true (test q) (tables.get t q) None e

  out_part : (t : Tables) (q : List ℕ) → test q ≡ false → part_at test t q ≡ None
  out_part t q e = cond-false (test q) (tables.get t q) None e

  pub part_differences : (t u : Tables) (ps : Places) → AreDifferences (tables.get t) (tables.get u) ps → AreDifferences (part_at test t) (part_at test u) (filter test ps)
  part_differences t u ps d = record {
    once = filter_distinct test ps d.once;
    each = all_filter (λ p. part_at test t p ≢ part_at test u p) test ps
        (all_weaker (λ p. tables.get t p ≢ tables.get u p) (λ p. test p ≡ true → part_at test t p ≢ part_at test u p) (λ p n e s. n (sym (in_part t p e) ∙ s ∙ in_part u p e)) ps d.each);
    only = λ q out. elim (cases_Bool (test q)) [
      | inl e ↦ in_part t q e ∙ d.only q (false_from_ne_true (is_among q ps) (λ h. false≢true (sym out ∙ among_passing test q ps h e))) ∙ sym (in_part u q e)
      | inr e ↦ out_part t q e ∙ sym (out_part u q e)
    ];
  }

  -- where all else is the same, tables differ at no other places
  pub whole_differences : (t u : Tables) (ps : Places) → ((q : List ℕ) → test q ≡ false → tables.get u q ≡ tables.get t q) → AreDifferences (part_at test t) (part_at test u) ps
      → AreDifferences (tables.get t) (tables.get u) ps
  whole_differences t u ps same d = record {
    once = d.once;
    each = all_weaker (λ p. part_at test t p ≢ part_at test u p) (λ p. tables.get t p ≢ tables.get u p) (λ p n e. n (ap (λ (o : Option (List ℕ)). cond (test p) o None) e)) ps d.each;
    only = λ q out. elim (cases_Bool (test q)) [
      | inl e ↦ sym (in_part t q e) ∙ d.only q out ∙ in_part u q e
      | inr e ↦ sym (same q e)
    ];
  }

  -- a part in which nothing has changed
  pub part_same : (t u : Tables) → ((q : List ℕ) → test q ≡ true → tables.get u q ≡ tables.get t q) → (q : List ℕ) → part_at test u q ≡ part_at test t q
  part_same t u same q = elim (cases_Bool (test q)) [
    | inl e ↦ in_part u q e ∙ same q e ∙ sym (in_part t q e)
    | inr e ↦ out_part u q e ∙ sym (out_part t q e)
  ]

-- ---- rows of worlds

vals_part : (t : Tables) (q : List ℕ) → vals_at t q ≡ part_at (is_in rows_alone) t q
vals_part t [] = refl
vals_part t (n ∷ k) = refl

pub row_differences : (t u : Tables) (ps : Places) → AreDifferences (tables.get t) (tables.get u) ps → AreDifferences (vals_at t) (vals_at u) (filter (is_in rows_alone) ps)
row_differences t u ps d =
    differences_like (part_at (is_in rows_alone) t) (part_at (is_in rows_alone) u) (vals_at t) (vals_at u) (filter (is_in rows_alone) ps) (vals_part t) (vals_part u)
    (part_differences (is_in rows_alone) t u ps d)

pub rows_whole : (t u : Tables) (ps : Places) → SamePlacesBut rows_alone t u → AreDifferences (vals_at t) (vals_at u) ps → AreDifferences (tables.get t) (tables.get u) ps
rows_whole t u ps same d =
    whole_differences (is_in rows_alone) t u ps same
    (differences_like (vals_at t) (vals_at u) (part_at (is_in rows_alone) t) (part_at (is_in rows_alone) u) ps (λ q. sym (vals_part t q)) (λ q. sym (vals_part u q)) d)

-- rows of worlds are the same where nothing of their table has changed
pub vals_same : (t u : Tables) → ((k : List ℕ) → tables.get u (11 ∷ k) ≡ tables.get t (11 ∷ k)) → (q : List ℕ) → vals_at u q ≡ vals_at t q
vals_same t u same [] = refl
vals_same t u same (n ∷ k) = elim (cases_Bool (nat_eq n 11)) [
  | inl e ↦ ap (λ (o : Option (List ℕ)). cond (nat_eq n 11) o None) (at n (eqb n e))
  | inr e ↦ cond-false (nat_eq n 11) (tables.get u (n ∷ k)) None e ∙ sym (cond-false (nat_eq n 11) (tables.get t (n ∷ k)) None e)
]
  where
    eqb : (m : ℕ) → nat_eq m 11 ≡ true → m ≡ 11
    eqb m e = eqb-true m 11 e

    at : (m : ℕ) → m ≡ 11 → tables.get u (m ∷ k) ≡ tables.get t (m ∷ k)
    at m e = ap (λ j. tables.get u (j ∷ k)) e ∙ same k ∙ sym (ap (λ j. tables.get t (j ∷ k)) e)

-- ---- how many places there are

-- places that pass one of two tests which no place passes both are no more than all
pub two_parts : (p r : List ℕ → Bool) → ((q : List ℕ) → p q ≡ true → r q ≡ false) → (xs : Places) → length (filter p xs) + length (filter r xs) ≤ length xs
two_parts p r h [] = omega arith
two_parts p r h (x ∷ xs) =
    let a = filter_parts p x xs in
    let b = filter_parts r x xs in
    let e = two_parts p r h xs in
    let c : cond (p x) 1 0 + cond (r x) 1 0 ≤ 1 = one (p x) (r x) (h x) in
    omega arith
  where
    one : (b c : Bool) → (b ≡ true → c ≡ false) → cond b 1 0 + cond c 1 0 ≤ 1
    one true true k = absurd (false≢true (sym (k refl)))
    one true false k = omega arith
    one false true k = omega arith
    one false false k = omega arith

module _ (ds : Places) (Lost : List ℕ → Type 0) (one : (p q : List ℕ) → Lost p → Lost q → p ≡ q) where
  abbrev Among : List ℕ → Type 0
  Among p = (is_among p ds ≡ true) ⊎ Lost p

  -- a place that is lost, and others of which each is among some or lost
  behind_lost : (p : List ℕ) → Lost p → (xs : Places) → AllByRecursion Among xs → AllByRecursion (λ q. is_among q (p ∷ ds) ≡ true) xs
  behind_lost p l [] h = tt
  behind_lost p l (x ∷ xs) h = (
    elim h.0 [
      | inl e ↦ or_right (same_text x p) (is_among x ds) e
      | inr m ↦ or_left (same_text x p) (is_among x ds) ((same_text-Decides x p).1 (one x p m l))
    ],
    behind_lost p l xs h.1,
  )

  -- one place at most is lost
  pub record IsWithin (xs : Places) : Type 0 where
    pub more : List ℕ
    pub all : AllByRecursion (λ q. is_among q (more ∷ ds) ≡ true) xs

  within : (xs : Places) → AllByRecursion Among xs → AllByRecursion (λ q. is_among q ds ≡ true) xs ⊎ IsWithin xs
  within [] h = inl tt
  within (x ∷ xs) h = elim h.0 [
    | inr l ↦ inr (record { more = x; all = (or_left (same_text x x) (is_among x ds) ((same_text-Decides x x).1 refl), behind_lost x l xs h.1) })
    | inl e ↦ elim (within xs h.1) [
      | inl r ↦ inl (e, r)
      | inr r ↦ inr (record { more = r.more; all = (or_right (same_text x r.more) (is_among x ds) e, r.all) })
    ]
  ]

  pub one_more : (xs : Places) → are_distinct xs ≡ true → AllByRecursion Among xs → length xs ≤ length ds + 1
  one_more xs d h = elim (within xs h) [
    | inl r ↦ let e = no_more xs ds d r in omega arith
    | inr r ↦ let e = no_more xs (r.more ∷ ds) d r.all in omega arith
  ]

-- ---- what differs in the middle

-- a place is in the end as it was, and was another in the middle
pub record IsLost (f g h : Look) (p : List ℕ) : Type 0 where
  pub same : f p ≡ h p
  pub other : f p ≢ g p

-- where no two places are such, no more but one differ before and after the middle than in all
module _ (f g h : Look) (ds : Places) (d : AreDifferences f h ds) (one : (p q : List ℕ) → IsLost f g h p → IsLost f g h q → p ≡ q) where
  first_of : (p : List ℕ) → f p ≢ g p → (is_among p ds ≡ true) ⊎ IsLost f g h p
  first_of p n = elim (cases_Bool (is_among p ds)) [ inl e ↦ inl e | inr e ↦ inr (record { same = d.only p e; other = n }) ]

  last_of : (p : List ℕ) → g p ≢ h p → (is_among p ds ≡ true) ⊎ IsLost f g h p
  last_of p n = elim (cases_Bool (is_among p ds)) [ inl e ↦ inl e | inr e ↦ inr (record { same = d.only p e; other = λ s. n (sym s ∙ d.only p e) }) ]

  pub few_before : (ps : Places) → AreDifferences f g ps → length ps ≤ length ds + 1
  few_before ps e = one_more ds (IsLost f g h) one ps e.once (all_weaker (λ p. f p ≢ g p) (λ p. (is_among p ds ≡ true) ⊎ IsLost f g h p) first_of ps e.each)

  pub few_after : (ps : Places) → AreDifferences g h ps → length ps ≤ length ds + 1
  few_after ps e = one_more ds (IsLost f g h) one ps e.once (all_weaker (λ p. g p ≢ h p) (λ p. (is_among p ds ≡ true) ⊎ IsLost f g h p) last_of ps e.each)

-- ---- rows that came are among the places that differ

pub more_rows : (t u : Tables) (n m : ℕ) (ps : Places) → ((q : List ℕ) → is_among q ps ≡ false → vals_at u q ≡ vals_at t q) → HasRowCount t n → HasRowCount u m → m ≤ n + length ps
more_rows t u n m ps same a b =
    let all : AllByRecursion (λ q. is_among q (a.places ++ ps) ≡ true) b.places =
    all_weaker (λ q. vals_at u q ≢ nothing_at q) (λ q. is_among q (a.places ++ ps) ≡ true) there b.places b.are.each in
    let e = no_more b.places (a.places ++ ps) b.are.once all in
    let f = length_append a.places ps in
    let g = a.many in
    let h = b.many in
    omega arith
  where
    there : (q : List ℕ) → vals_at u q ≢ nothing_at q → is_among q (a.places ++ ps) ≡ true
    there q n = list_any-append (same_text q) a.places ps ∙ elim (cases_Bool (is_among q a.places)) [
      | inl e ↦ or_left (is_among q a.places) (is_among q ps) e
      | inr e ↦ or_right (is_among q a.places) (is_among q ps) (elim (cases_Bool (is_among q ps)) [ inl f ↦ f | inr f ↦ absurd (n (same q f ∙ a.are.only q e)) ])
    ]
