-- What is told of the places where tables differ is how the number of their rows changes.
use Rattle.std.proofs.Common.{◌≡◌, ◌≢◌, ◌∙◌, ℕ, ◌+◌, ◌-◌, ◌^◌, ◌≤◌, ◌<◌, Bool, true, false, not, nat_eq, cond, List, [], ◌∷◌, ◌++◌, length, filter, Option, Some, None, refl, sym, ap, arith, inl, inr}
use Rattle.std.specs.List.{AllByRecursion}
use Rattle.std.specs.Option.{is_some}
use Rattle.std.specs.FinMap as tables
use Rattle.std.proofs.lemmas.Bool.{cases_Bool, and_parts, and_from, false≢true, false_from_ne_true, or_left, or_right, or_cases, cond-true, cond-false, not-true, not_from_false, or_parts}
use Rattle.std.proofs.lemmas.List.Folds.{list_any-append}
use Rattle.bdb_base.specs.Bases.{are_distinct}
use Rattle.bdb_base.specs.Same.{same_text}
use Rattle.bdb_base.specs.SameLemmas.{same_text-Decides}
use Rattle.bdb_base.proofs.BoolLemmas.{not_twice}
use Rattle.bdb_keep.specs.Seen.{Seen}
use Rattle.bdb_keep.specs.Tables.{Tables}
use Rattle.bdb_tables.specs.Differences.{AreDifferences}
use Rattle.bdb_tables.proofs.DifferenceLemmas.{is_among, differences_add, no_more}
use Rattle.bdb_val.specs.Counts.{has_none, TellsDifferences}
use Rattle.bdb_val.specs.Others.{SamePlacesBut, is_in}
use Rattle.bdb_val.specs.Steps.{counted}
use Rattle.bdb_update.specs.Tallies.{vals_at, nothing_at, HasRowCount, Balances}

-- ---- lists of places

abbrev pub Places : Type 0
Places = List (List ℕ)

pub filter_parts : (p : List ℕ → Bool) (x : List ℕ) (xs : Places) → (length (filter p (x ∷ xs)) ≡ cond (p x) 1 0 + length (filter p xs))
filter_parts p x xs = by (p x)
  where
    by : (b : Bool) → length (cond b (x ∷ filter p xs) (filter p xs)) ≡ cond b 1 0 + length (filter p xs)
    by true = omega arith
    by false = omega arith

-- those that pass a test and those that don't are all
both_parts : (p : List ℕ → Bool) (xs : Places) → length (filter p xs) + length (filter (λ x. not (p x)) xs) ≡ length xs
both_parts p [] = refl
both_parts p (x ∷ xs) =
    let a = filter_parts p x xs in
    let b = filter_parts (λ y. not (p y)) x xs in
    let e = both_parts p xs in
    let c : cond (p x) 1 0 + cond (not (p x)) 1 0 ≡ 1 = one (p x) in
    omega arith
  where
    one : (b : Bool) → cond b 1 0 + cond (not b) 1 0 ≡ 1
    one true = refl
    one false = refl

pub fewer : (p : List ℕ → Bool) (xs : Places) → length (filter p xs) ≤ length xs
fewer p xs = let e = both_parts p xs in omega arith

filter_append : (p : List ℕ → Bool) (xs ys : Places) → filter p (xs ++ ys) ≡ filter p xs ++ filter p ys
filter_append p [] ys = refl
filter_append p (x ∷ xs) ys = by (p x) (filter_append p xs ys)
  where
    by : (b : Bool) → filter p (xs ++ ys) ≡ filter p xs ++ filter p ys → cond b (x ∷ filter p (xs ++ ys)) (filter p (xs ++ ys)) ≡ cond b (x ∷ filter p xs) (filter p xs) ++ filter p ys
    by true e = ap (λ (zs : Places). x ∷ zs) e
    by false e = e

pub length_append : (xs ys : Places) → length (xs ++ ys) ≡ length xs + length ys
length_append [] ys = omega arith
length_append (x ∷ xs) ys = let e = length_append xs ys in omega arith

-- a test of those that pass another, where all that pass it pass the other too
filter_twice : (p q : List ℕ → Bool) (xs : Places) → AllByRecursion (λ x. p x ≡ true → q x ≡ true) xs → filter p (filter q xs) ≡ filter p xs
filter_twice p q [] h = refl
filter_twice p q (x ∷ xs) h = by (q x) (p x) refl refl (filter_twice p q xs h.1)
  where
    by : (b a : Bool) → q x ≡ b → p x ≡ a → filter p (filter q xs) ≡ filter p xs → filter p (cond b (x ∷ filter q xs) (filter q xs)) ≡ filter p (x ∷ xs)
    by true a e f r = ap (λ zs. cond (p x) (x ∷ zs) zs) r
    by false true e f r = absurd (false≢true (sym e ∙ h.0 f))
    by false false e f r = r ∙ sym (ap (λ c. cond c (x ∷ filter p xs) (filter p xs)) f)

filter_none : (p : List ℕ → Bool) (xs : Places) → AllByRecursion (λ x. p x ≡ false) xs → filter p xs ≡ []
filter_none p [] h = refl
filter_none p (x ∷ xs) h = cond-false (p x) (x ∷ filter p xs) (filter p xs) h.0 ∙ filter_none p xs h.1

filter_all : (p : List ℕ → Bool) (xs : Places) → AllByRecursion (λ x. p x ≡ true) xs → filter p xs ≡ xs
filter_all p [] h = refl
filter_all p (x ∷ xs) h = cond-true (p x) (x ∷ filter p xs) (filter p xs) h.0 ∙ ap (λ zs. x ∷ zs) (filter_all p xs h.1)

among_filter : (p : List ℕ → Bool) (q : List ℕ) (xs : Places) → is_among q (filter p xs) ≡ true → is_among q xs ≡ true
among_filter p q [] h = h
among_filter p q (x ∷ xs) h = by (p x) (among_filter p q xs) h
  where
    by : (b : Bool) → (is_among q (filter p xs) ≡ true → is_among q xs ≡ true) → is_among q (cond b (x ∷ filter p xs) (filter p xs)) ≡ true → is_among q (x ∷ xs) ≡ true
    by true r e = elim (or_cases (same_text q x) (is_among q (filter p xs)) e) [
      | inl a ↦ or_left (same_text q x) (is_among q xs) a
      | inr a ↦ or_right (same_text q x) (is_among q xs) (r a)
    ]
    by false r e = or_right (same_text q x) (is_among q xs) (r e)

-- one among some that passes a test is among those that do
pub among_passing : (p : List ℕ → Bool) (q : List ℕ) (xs : Places) → is_among q xs ≡ true → p q ≡ true → is_among q (filter p xs) ≡ true
among_passing p q [] h e = h
among_passing p q (x ∷ xs) h e = elim (or_cases (same_text q x) (is_among q xs) h) [
  | inl a ↦
      let same : q ≡ x = (same_text-Decides q x).0 a in
      ap (is_among q) (cond-true (p x) (x ∷ filter p xs) (filter p xs) (ap p (sym same) ∙ e)) ∙ or_left (same_text q x) (is_among q (filter p xs)) a
  | inr a ↦ later (p x) (among_passing p q xs a e)
]
  where
    later : (b : Bool) → is_among q (filter p xs) ≡ true → is_among q (cond b (x ∷ filter p xs) (filter p xs)) ≡ true
    later true r = or_right (same_text q x) (is_among q (filter p xs)) r
    later false r = r

pub filter_distinct : (p : List ℕ → Bool) (xs : Places) → are_distinct xs ≡ true → are_distinct (filter p xs) ≡ true
filter_distinct p [] h = h
filter_distinct p (x ∷ xs) h =
    let k = and_parts (not (is_among x xs)) (are_distinct xs) h in
    by (p x) (filter_distinct p xs k.1) (not-true (is_among x xs) k.0)
  where
    by : (b : Bool) → are_distinct (filter p xs) ≡ true → is_among x xs ≡ false → are_distinct (cond b (x ∷ filter p xs) (filter p xs)) ≡ true
    by true r n = and_from (not (is_among x (filter p xs))) (are_distinct (filter p xs))
        (not_from_false (is_among x (filter p xs)) (false_from_ne_true (is_among x (filter p xs)) (λ e. false≢true (sym n ∙ among_filter p x xs e)))) r
    by false r n = r

pub all_filter : (P : List ℕ → Type 0) (p : List ℕ → Bool) (xs : Places) → AllByRecursion (λ x. p x ≡ true → P x) xs → AllByRecursion P (filter p xs)
all_filter P p [] h = tt
all_filter P p (x ∷ xs) h = by (p x) refl (all_filter P p xs h.1)
  where
    by : (b : Bool) → p x ≡ b → AllByRecursion P (filter p xs) → AllByRecursion P (cond b (x ∷ filter p xs) (filter p xs))
    by true e r = (h.0 e, r)
    by false e r = r

pub all_of : (P : List ℕ → Type 0) → ((x : List ℕ) → P x) → (xs : Places) → AllByRecursion P xs
all_of P h [] = tt
all_of P h (x ∷ xs) = (h x, all_of P h xs)

pub all_weaker : (P Q : List ℕ → Type 0) → ((x : List ℕ) → P x → Q x) → (xs : Places) → AllByRecursion P xs → AllByRecursion Q xs
all_weaker P Q f [] h = tt
all_weaker P Q f (x ∷ xs) h = (f x h.0, all_weaker P Q f xs h.1)

all_append : (P : List ℕ → Type 0) (xs ys : Places) → AllByRecursion P xs → AllByRecursion P ys → AllByRecursion P (xs ++ ys)
all_append P [] ys h k = k
all_append P (x ∷ xs) ys h k = (h.0, all_append P xs ys h.1 k)

-- all of some, each of which is among them
pub all_among : (xs : Places) → AllByRecursion (λ x. is_among x xs ≡ true) xs
all_among [] = tt
all_among (x ∷ xs) = (
  or_left (same_text x x) (is_among x xs) ((same_text-Decides x x).1 refl),
  all_weaker (λ y. is_among y xs ≡ true) (λ y. is_among y (x ∷ xs) ≡ true) (λ y h. or_right (same_text y x) (is_among y xs) h) xs (all_among xs),
)

-- ---- rows

pub same_row : Option (List ℕ) → Option (List ℕ) → Bool
same_row None None = true
same_row None (Some b) = false
same_row (Some a) None = false
same_row (Some a) (Some b) = same_text a b

pub same_row_is : (a b : Option (List ℕ)) → same_row a b ≡ true → a ≡ b
unfolding same_row
same_row_is None None e = refl
same_row_is None (Some b) e = absurd (false≢true e)
same_row_is (Some a) None e = absurd (false≢true e)
same_row_is (Some a) (Some b) e = ap Some ((same_text-Decides a b).0 e)

pub same_row_from : (a b : Option (List ℕ)) → a ≡ b → same_row a b ≡ true
unfolding same_row
same_row_from None None e = refl
same_row_from None (Some b) e = absurd cc
same_row_from (Some a) None e = absurd cc
same_row_from (Some a) (Some b) e = let f : a ≡ b = cc in (same_text-Decides a b).1 f

some_there : (o : Option (List ℕ)) → o ≢ None → is_some o ≡ true
some_there None h = absurd (h refl)
some_there (Some x) h = refl

-- a place of the table of rows that has one has it in the tables
row_there : (t : Tables) (q : List ℕ) → vals_at t q ≢ None → is_some (tables.get t q) ≡ true
row_there t [] h = absurd (h refl)
row_there t (n ∷ k) h = by (nat_eq n 11) refl
  where
    by : (b : Bool) → nat_eq n 11 ≡ b → is_some (tables.get t (n ∷ k)) ≡ true
    by true e = some_there (tables.get t (n ∷ k)) (λ f. h (cond-true (nat_eq n 11) (tables.get t (n ∷ k)) None e ∙ f))
    by false e = absurd (h (cond-false (nat_eq n 11) (tables.get t (n ∷ k)) None e))

abbrev pub rows_alone : ℕ → Bool
rows_alone n = nat_eq n 11

pub in_rows : (q : List ℕ) (t : Tables) → vals_at t q ≢ None → is_in rows_alone q ≡ true
in_rows [] t h = absurd (h refl)
in_rows (n ∷ k) t h = elim (cases_Bool (nat_eq n 11)) [ inl e ↦ e | inr e ↦ absurd (h (cond-false (nat_eq n 11) (tables.get t (n ∷ k)) None e)) ]

pub vals_is : (t : Tables) (q : List ℕ) → is_in rows_alone q ≡ true → vals_at t q ≡ tables.get t q
vals_is t [] e = absurd (false≢true e)
vals_is t (n ∷ k) e = cond-true (nat_eq n 11) (tables.get t (n ∷ k)) None e

module _ (t u : Tables) (n m : ℕ) (same : SamePlacesBut rows_alone t u) (a : HasRowCount t n) (b : HasRowCount u m) where
  -- places with rows before, and afterwards
  abbrev ps : Places
  ps = a.places

  abbrev qs : Places
  qs = b.places

  -- those that came, and those that went
  abbrev pub came : Places
  came = filter (has_none t) qs

  abbrev pub went : Places
  went = filter (has_none u) ps

  ps_there : AllByRecursion (λ p. is_some (tables.get t p) ≡ true) ps
  ps_there = all_weaker (λ p. vals_at t p ≢ None) (λ p. is_some (tables.get t p) ≡ true) (λ p h. row_there t p h) ps a.are.each

  qs_there : AllByRecursion (λ q. is_some (tables.get u q) ≡ true) qs
  qs_there = all_weaker (λ q. vals_at u q ≢ None) (λ q. is_some (tables.get u q) ≡ true) (λ q h. row_there u q h) qs b.are.each

  -- what is not among those that had rows had none
  none_before : (q : List ℕ) → is_in rows_alone q ≡ true → is_among q ps ≡ false → tables.get t q ≡ None
  none_before q i out = sym (vals_is t q i) ∙ a.are.only q out

  none_after : (q : List ℕ) → is_in rows_alone q ≡ true → is_among q qs ≡ false → tables.get u q ≡ None
  none_after q i out = sym (vals_is u q i) ∙ b.are.only q out

  -- ---- those that stay are as many on both sides

  abbrev stay : Places
  stay = filter (λ p. not (has_none u p)) ps

  abbrev stayed : Places
  stayed = filter (λ q. not (has_none t q)) qs

  here_too : AllByRecursion (λ p. is_among p stayed ≡ true) stay
  here_too = all_filter (λ p. is_among p stayed ≡ true) (λ p. not (has_none u p)) ps
      (go ps a.are.each ps_there)
    where
      go : (xs : Places) → AllByRecursion (λ p. vals_at t p ≢ None) xs → AllByRecursion (λ p. is_some (tables.get t p) ≡ true) xs → AllByRecursion (λ p. not (has_none u p) ≡ true → is_among p stayed ≡ true) xs
      go [] h k = tt
      go (x ∷ xs) h k = (
        (λ e. among_passing (λ q. not (has_none t q)) x qs
            (there x (in_rows x t h.0) (sym (not_twice (is_some (tables.get u x))) ∙ e)) (not_twice (is_some (tables.get t x)) ∙ k.0)),
        go xs h.1 k.1,
      )
        where
          there : (q : List ℕ) → is_in rows_alone q ≡ true → is_some (tables.get u q) ≡ true → is_among q qs ≡ true
          there q i s = elim (cases_Bool (is_among q qs)) [ inl e ↦ e | inr e ↦ absurd (false≢true (sym (ap is_some (none_after q i e)) ∙ s)) ]

  there_too : AllByRecursion (λ q. is_among q stay ≡ true) stayed
  there_too = all_filter (λ q. is_among q stay ≡ true) (λ q. not (has_none t q)) qs (go qs b.are.each qs_there)
    where
      go : (xs : Places) → AllByRecursion (λ q. vals_at u q ≢ None) xs → AllByRecursion (λ q. is_some (tables.get u q) ≡ true) xs → AllByRecursion (λ q. not (has_none t q) ≡ true → is_among q stay ≡ true) xs
      go [] h k = tt
      go (x ∷ xs) h k = (
        (λ e. among_passing (λ p. not (has_none u p)) x ps
            (there x (in_rows x u h.0) (sym (not_twice (is_some (tables.get t x))) ∙ e)) (not_twice (is_some (tables.get u x)) ∙ k.0)),
        go xs h.1 k.1,
      )
        where
          there : (q : List ℕ) → is_in rows_alone q ≡ true → is_some (tables.get t q) ≡ true → is_among q ps ≡ true
          there q i s = elim (cases_Bool (is_among q ps)) [ inl e ↦ e | inr e ↦ absurd (false≢true (sym (ap is_some (none_before q i e)) ∙ s)) ]

  pub rows_balance : n + length came ≡ m + length went
  rows_balance =
      let x = both_parts (has_none u) ps in
      let y = both_parts (has_none t) qs in
      let p = no_more stay stayed (filter_distinct (λ z. not (has_none u z)) ps a.are.once) here_too in
      let q = no_more stayed stay (filter_distinct (λ z. not (has_none t z)) qs b.are.once) there_too in
      let e = a.many in
      let f = b.many in
      omega arith

  -- ---- the places where the tables differ

  -- a place that came is no place that had a row
  came_apart : AllByRecursion (λ p. is_among p came ≡ false) ps
  came_apart = all_weaker (λ p. is_some (tables.get t p) ≡ true) (λ p. is_among p came ≡ false)
      (λ p s. false_from_ne_true (is_among p came) (λ e. false≢true (sym (ap not s) ∙ passed p qs e))) ps ps_there
    where
      passed : (p : List ℕ) (xs : Places) → is_among p (filter (has_none t) xs) ≡ true → has_none t p ≡ true
      passed p [] e = absurd (false≢true e)
      passed p (x ∷ xs) e = by (has_none t x) refl e (passed p xs)
        where
          by : (c : Bool) → has_none t x ≡ c → is_among p (cond c (x ∷ filter (has_none t) xs) (filter (has_none t) xs)) ≡ true → (is_among p (filter (has_none t) xs) ≡ true → has_none t p ≡ true) → has_none t p ≡ true
          by true k f r = elim (or_cases (same_text p x) (is_among p (filter (has_none t) xs)) f) [ inl z ↦ ap (has_none t) ((same_text-Decides p x).0 z) ∙ k | inr z ↦ r z ]
          by false k f r = r f

  -- something at the places that came
  abbrev at_came : List ℕ → Option (List ℕ)
  at_came q = cond (is_among q came) (Some []) None

  union : AreDifferences (vals_at t) at_came (ps ++ came)
  union = differences_add (vals_at t) nothing_at at_came ps came a.are (record {
    once = filter_distinct (has_none t) qs b.are.once;
    each = all_weaker (λ q. is_among q came ≡ true) (λ q. nothing_at q ≢ at_came q) (λ q e f. some_none (f ∙ cond-true (is_among q came) (Some []) None e)) came (all_among came);
    only = λ q out. sym (cond-false (is_among q came) (Some []) None out);
  }) came_apart
    where
      some_none : {x : List ℕ} → None ≡ Some x → ⊥
      some_none e = cc

  pub differs : List ℕ → Bool
  differs p = not (same_row (tables.get t p) (tables.get u p))

  abbrev pub places : Places
  places = filter differs (ps ++ came)

  differ_is : (p : List ℕ) → differs p ≡ true → tables.get t p ≢ tables.get u p
  unfolding differs
  differ_is p e f = false≢true (sym (ap not (same_row_from (tables.get t p) (tables.get u p) f)) ∙ e)

  differ_not : (p : List ℕ) → differs p ≡ false → tables.get t p ≡ tables.get u p
  unfolding differs
  differ_not p e = same_row_is (tables.get t p) (tables.get u p) (sym (not_twice (same_row (tables.get t p) (tables.get u p))) ∙ ap not e)

  one_only : (p : List ℕ) → is_some (tables.get t p) ≡ not (is_some (tables.get u p)) → differs p ≡ true
  unfolding differs same_row
  one_only p e = by (tables.get t p) (tables.get u p) e
    where
      by : (x y : Option (List ℕ)) → is_some x ≡ not (is_some y) → not (same_row x y) ≡ true
      by None None e = absurd (false≢true e)
      by None (Some y) e = refl
      by (Some x) None e = refl
      by (Some x) (Some y) e = absurd (false≢true (sym e))

  pub differences : AreDifferences (tables.get t) (tables.get u) places
  differences = record {
    once = filter_distinct differs (ps ++ came) union.once;
    each = all_filter (λ p. tables.get t p ≢ tables.get u p) differs (ps ++ came) (all_of (λ p. differs p ≡ true → tables.get t p ≢ tables.get u p) differ_is (ps ++ came));
    only = λ q out. elim (cases_Bool (is_in rows_alone q)) [
      | inr away ↦ sym (same q away)
      | inl i ↦ elim (cases_Bool (differs q)) [
        | inr d ↦ differ_not q d
        | inl d ↦
            let none : is_among q (ps ++ came) ≡ false = false_from_ne_true (is_among q (ps ++ came)) (λ e. false≢true (sym out ∙ among_passing differs q (ps ++ came) e d)) in
            let apart = or_parts (is_among q ps) (is_among q came) (sym (list_any-append (same_text q) ps came) ∙ none) in
            let before : tables.get t q ≡ None = none_before q i apart.0 in
            let absent : is_among q qs ≡ false = false_from_ne_true (is_among q qs) (λ e. false≢true (sym apart.1 ∙ among_passing (has_none t) q qs e (ap (λ o. not (is_some o)) before))) in
            before ∙ sym (none_after q i absent)
      ]
    ];
  }

  -- those that had no row before are those that came
  pub came_is : filter (has_none t) places ≡ came
  came_is =
      filter_twice (has_none t) differs (ps ++ came) (all_append (λ x. has_none t x ≡ true → differs x ≡ true) ps came
      (all_weaker (λ p. is_some (tables.get t p) ≡ true) (λ p. has_none t p ≡ true → differs p ≡ true) (λ p s e. absurd (false≢true (sym (ap not s) ∙ e))) ps ps_there)
      (all_filter (λ p. has_none t p ≡ true → differs p ≡ true) (has_none t) qs
      (all_weaker (λ q. is_some (tables.get u q) ≡ true) (λ q. has_none t q ≡ true → has_none t q ≡ true → differs q ≡ true)
      (λ q s e _. one_only q (sym (not_twice (is_some (tables.get t q))) ∙ ap not e ∙ sym (ap not s))) qs qs_there)))
      ∙ filter_append (has_none t) ps came
      ∙ ap (λ zs. zs ++ filter (has_none t) came) (filter_none (has_none t) ps (all_weaker (λ p. is_some (tables.get t p) ≡ true) (λ p. has_none t p ≡ false) (λ p s. ap not s) ps ps_there))
      ∙ filter_all (has_none t) came (all_filter (λ p. has_none t p ≡ true) (has_none t) qs (all_of (λ p. has_none t p ≡ true → has_none t p ≡ true) (λ p e. e) qs))

  -- those that have none afterwards are those that went
  pub went_is : filter (has_none u) places ≡ went
  went_is =
      filter_twice (has_none u) differs (ps ++ came) (all_append (λ x. has_none u x ≡ true → differs x ≡ true) ps came
      (all_weaker (λ p. is_some (tables.get t p) ≡ true) (λ p. has_none u p ≡ true → differs p ≡ true) (λ p s e. one_only p (s ∙ sym e)) ps ps_there)
      (all_weaker (λ q. is_some (tables.get u q) ≡ true) (λ q. has_none u q ≡ true → differs q ≡ true) (λ q s e. absurd (false≢true (sym (ap not s) ∙ e))) came came_there))
      ∙ filter_append (has_none u) ps came
      ∙ ap (λ zs. went ++ zs) (filter_none (has_none u) came (all_weaker (λ q. is_some (tables.get u q) ≡ true) (λ q. has_none u q ≡ false) (λ q s. ap not s) came came_there))
      ∙ append_none went
    where
      came_there : AllByRecursion (λ q. is_some (tables.get u q) ≡ true) came
      came_there = all_filter (λ q. is_some (tables.get u q) ≡ true) (has_none t) qs (all_weaker (λ q. is_some (tables.get u q) ≡ true) (λ q. has_none t q ≡ true → is_some (tables.get u q) ≡ true) (λ q s _. s) qs qs_there)

      append_none : (xs : Places) → xs ++ [] ≡ xs
      append_none [] = refl
      append_none (x ∷ xs) = ap (λ zs. x ∷ zs) (append_none xs)

-- what is told of the differences balances the numbers of rows, where these are no more than fit
pub told_balance : (old new : Seen) (n m put taken : ℕ) → SamePlacesBut rows_alone old.kept new.kept → HasRowCount old.kept n → HasRowCount new.kept m → n < 2 ^ 64 - 1 → m < 2 ^ 64 - 1
    → TellsDifferences old new put taken → Balances n m put taken
told_balance old new n m put taken same a b ln lm tells =
    let t = old.kept in
    let u = new.kept in
    let told = tells (places t u n m same a b) (differences t u n m same a b) in
    let e = rows_balance t u n m same a b in
    let c : put ≡ counted (length (came t u n m same a b)) = told.came ∙ ap (λ (xs : Places). counted (length xs)) (came_is t u n m same a b) in
    let w : taken ≡ counted (length (went t u n m same a b)) = told.went ∙ ap (λ (xs : Places). counted (length xs)) (went_is t u n m same a b) in
    let cm = fewer (has_none t) b.places in
    let wm = fewer (has_none u) a.places in
    let f = a.many in
    let g = b.many in
    record { balance = omega arith; few_came = omega arith; few_went = omega arith }
