-- How many of the places where look-ups differ pass a test, and lists that a map makes.
use Rattle.std.proofs.Common.{◌≡◌, ◌≢◌, ◌∙◌, ℕ, suc, Bool, true, false, ◌||◌, List, [], ◌∷◌, length, filter, map, cond, inl, inr, refl, ap, sym, subst}
use Rattle.std.specs.List.{list_any, AllByRecursion}
use Rattle.std.proofs.lemmas.Bool.{true≢false, cases_Bool, or_parts, cond-true, cond-false}
use Rattle.bdb_base.specs.Same.{same_text}
use Rattle.bdb_base.specs.SameLemmas.{same_text-Decides}
use Rattle.bdb_base.proofs.ListLemmas.{filter_kept_one, filter_dropped_one}
use Rattle.bdb_base.proofs.UserLemmas.{distinct_filter}
use Rattle.bdb_tables.specs.Differences.{AreDifferences}
use Rattle.bdb_tables.proofs.DifferenceLemmas.{differences_are_counted}

-- a place that passes and isn't among those that pass isn't among all
not_among : (test : List ℕ → Bool) (q : List ℕ) → test q ≡ true → (ps : List (List ℕ)) → list_any (same_text q) (filter test ps) ≡ false → list_any (same_text q) ps ≡ false
not_among test q t [] e = refl
not_among test q t (p ∷ ps) e = elim (cases_Bool (same_text q p)) [
  | inl s ↦
      let same : q ≡ p = (same_text-Decides q p).0 s in
      let kept = filter_kept_one test p ps (ap test (sym same) ∙ t) in
      absurd (true≢false (sym (ap (λ b. b || list_any (same_text q) (filter test ps)) s) ∙ sym (ap (list_any (same_text q)) kept) ∙ e))
  | inr s ↦ ap (λ b. b || list_any (same_text q) ps) s ∙ not_among test q t ps (rest s)
]
  where
    rest : same_text q p ≡ false → list_any (same_text q) (filter test ps) ≡ false
    rest s = elim (cases_Bool (test p)) [
      | inl c ↦ (or_parts (same_text q p) (list_any (same_text q) (filter test ps)) (sym (ap (list_any (same_text q)) (filter_kept_one test p ps c)) ∙ e)).1
      | inr c ↦ sym (ap (list_any (same_text q)) (filter_dropped_one test p ps c)) ∙ e
    ]

module _ {X : Type 0} (f g : List ℕ → X) (test : List ℕ → Bool) where
  -- the first look-up where the test passes, else the second
  abbrev chosen : List ℕ → X
  chosen q = cond (test q) (f q) (g q)

  chosen_differ : (ps : List (List ℕ)) → AllByRecursion (λ p. f p ≢ g p) ps → AllByRecursion (λ p. chosen p ≢ g p) (filter test ps)
  chosen_differ [] a = tt
  chosen_differ (p ∷ ps) a = elim (cases_Bool (test p)) [
    | inl c ↦ subst (AllByRecursion (λ q. chosen q ≢ g q)) (sym (filter_kept_one test p ps c))
        ((λ e. a.0 (sym (cond-true (test p) (f p) (g p) c) ∙ e)), chosen_differ ps a.1)
    | inr c ↦ subst (AllByRecursion (λ q. chosen q ≢ g q)) (sym (filter_dropped_one test p ps c)) (chosen_differ ps a.1)
  ]

  filtered_differ : (ps : List (List ℕ)) → AreDifferences f g ps → AreDifferences chosen g (filter test ps)
  filtered_differ ps d = record {
    once = distinct_filter test ps d.once;
    each = chosen_differ ps d.each;
    only = λ q out. elim (cases_Bool (test q)) [
      | inl c ↦ cond-true (test q) (f q) (g q) c ∙ d.only q (not_among test q c ps out)
      | inr c ↦ cond-false (test q) (f q) (g q) c
    ];
  }

  -- as many of the places where look-ups differ pass a test, however they are listed
  pub filtered_are_counted : (ps qs : List (List ℕ)) → AreDifferences f g ps → AreDifferences f g qs → length (filter test ps) ≡ length (filter test qs)
  filtered_are_counted ps qs d e = differences_are_counted chosen g (filter test ps) (filter test qs) (filtered_differ ps d) (filtered_differ qs e)

-- as many pass a test as of what a map makes of them pass another
pub filter_mapped : {X Y : Type 0} (p : X → Bool) (q : Y → Bool) (m : X → Y) (xs : List X) → AllByRecursion (λ x. p x ≡ q (m x)) xs → length (filter p xs) ≡ length (filter q (map m xs))
filter_mapped p q m [] a = refl
filter_mapped p q m (x ∷ xs) a = elim (cases_Bool (p x)) [
  | inl e ↦ ap length (filter_kept_one p x xs e) ∙ ap (λ n. suc n) (filter_mapped p q m xs a.1)
      ∙ sym (ap length (filter_kept_one q (m x) (map m xs) (sym a.0 ∙ e)))
  | inr e ↦ ap length (filter_dropped_one p x xs e) ∙ filter_mapped p q m xs a.1 ∙ sym (ap length (filter_dropped_one q (m x) (map m xs) (sym a.0 ∙ e)))
]

-- as many pass one test as another that tells the same of each
pub filter_alike : {X : Type 0} (p q : X → Bool) (xs : List X) → AllByRecursion (λ x. p x ≡ q x) xs → length (filter p xs) ≡ length (filter q xs)
filter_alike p q [] a = refl
filter_alike p q (x ∷ xs) a = elim (cases_Bool (p x)) [
  | inl e ↦ ap length (filter_kept_one p x xs e) ∙ ap (λ n. suc n) (filter_alike p q xs a.1) ∙ sym (ap length (filter_kept_one q x xs (sym a.0 ∙ e)))
  | inr e ↦ ap length (filter_dropped_one p x xs e) ∙ filter_alike p q xs a.1 ∙ sym (ap length (filter_dropped_one q x xs (sym a.0 ∙ e)))
]

pub filter_whole : {X : Type 0} (p : X → Bool) (xs : List X) → AllByRecursion (λ x. p x ≡ true) xs → length (filter p xs) ≡ length xs
filter_whole p [] a = refl
filter_whole p (x ∷ xs) a = ap length (filter_kept_one p x xs a.0) ∙ ap (λ n. suc n) (filter_whole p xs a.1)

pub filter_nothing : {X : Type 0} (p : X → Bool) (xs : List X) → AllByRecursion (λ x. p x ≡ false) xs → length (filter p xs) ≡ 0
filter_nothing p [] a = refl
filter_nothing p (x ∷ xs) a = ap length (filter_dropped_one p x xs a.0) ∙ filter_nothing p xs a.1
