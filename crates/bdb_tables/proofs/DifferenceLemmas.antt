-- Places where tables differ add up, have one number, and are those of changes that alter their rows.
use Rattle.std.proofs.Common.{◌≡◌, ◌≢◌, ℕ, suc, ◌+◌, ◌≤◌, Bool, true, false, not, cond, List, [], ◌∷◌, ◌++◌, length, map, Option, refl, sym, ap, ◌∙◌, arith, inl, inr}
use Rattle.std.specs.Prelude.{◌||◌}
use Rattle.std.specs.List.{AllByRecursion, list_any}
use Rattle.std.specs.Option.{option_map}
use Rattle.std.specs.Ordering.{eq_by_cmp, is_eq}
use Rattle.std.specs.FinMap as tables
use Rattle.std.proofs.lemmas.Bool.{cases_Bool, and_parts, and_from, false≢true, false_from_ne_true, not-true}
use Rattle.std.proofs.lemmas.List.Folds.{list_any-append}
use Rattle.bdb_base.specs.Bases.{are_distinct}
use Rattle.bdb_base.specs.Same.{same_text}
use Rattle.bdb_base.proofs.AllLemmas.{all_append}
use Rattle.bdb_base.proofs.SegmentLemmas.{same_text_is, same_text_itself}
use Rattle.bdb_key.proofs.Forms.{tied}
use Rattle.bdb_keep.specs.Tables.{Tables, bytes_cmp}
use Rattle.bdb_keep.proofs.RowsLemmas.{same_place}
use Rattle.bdb_tables.specs.Codec.{Codec, place}
use Rattle.bdb_tables.specs.Differences.{AreDifferences, AreReal, DifferencesAdd, DifferencesAreCounted}
use Rattle.bdb_tables.specs.Writes.{with_change, with_changes}
use Rattle.bdb_tables.proofs.WriteLemmas.{get_after_change}

-- a place is among places
abbrev pub is_among : List ℕ → List (List ℕ) → Bool
is_among p ps = list_any (same_text p) ps

pub false_parts : (a b : Bool) → a || b ≡ false → (a ≡ false) × (b ≡ false)
false_parts true b e = absurd cc
false_parts false b e = (refl, e)

pub or_false : (a b : Bool) → a ≡ false → b ≡ false → a || b ≡ false
or_false a b e f = ap (λ x. x || b) e ∙ f

-- ---- lists of places

members : (qs : List (List ℕ)) → AllByRecursion (λ q. is_among q qs ≡ true) qs
members [] = tt
members (q ∷ qs) = (ap (λ b. b || is_among q qs) (same_text_itself q), later qs (members qs))
  where
    later : (rs : List (List ℕ)) → AllByRecursion (λ r. is_among r qs ≡ true) rs → AllByRecursion (λ r. is_among r (q ∷ qs) ≡ true) rs
    later [] h = tt
    later (r ∷ rs) h = (either (same_text r q) (is_among r qs) h.0, later rs h.1)
      where
        either : (a b : Bool) → b ≡ true → a || b ≡ true
        either true b e = refl
        either false b e = e

-- a place that is among some is among none that these aren't
pub absent : (ps qs : List (List ℕ)) (q : List ℕ) → AllByRecursion (λ p. is_among p qs ≡ false) ps → is_among q qs ≡ true → is_among q ps ≡ false
absent [] qs q apart here = refl
absent (p ∷ ps) qs q apart here =
    or_false (same_text q p) (is_among q ps)
    (false_from_ne_true (same_text q p) (λ e. false≢true (sym apart.0 ∙ ap (λ x. is_among x qs) (sym (same_text_is q p e)) ∙ here)))
    (absent ps qs q apart.1 here)

pub distinct_append : (ps qs : List (List ℕ)) → are_distinct ps ≡ true → are_distinct qs ≡ true → AllByRecursion (λ p. is_among p qs ≡ false) ps → are_distinct (ps ++ qs) ≡ true
distinct_append [] qs dp dq apart = dq
distinct_append (p ∷ ps) qs dp dq apart =
    let both = and_parts (not (is_among p ps)) (are_distinct ps) dp in
    and_from (not (is_among p (ps ++ qs))) (are_distinct (ps ++ qs))
    (ap not (list_any-append (same_text p) ps qs ∙ or_false (is_among p ps) (is_among p qs) (not-true (is_among p ps) both.0) apart.0))
    (distinct_append ps qs both.1 dq apart.1)

all_both : (P Q R : List ℕ → Type 0) (ps : List (List ℕ)) → ((p : List ℕ) → P p → Q p → R p) → AllByRecursion P ps → AllByRecursion Q ps → AllByRecursion R ps
all_both P Q R [] f hp hq = tt
all_both P Q R (p ∷ ps) f hp hq = (f p hp.0 hq.0, all_both P Q R ps f hp.1 hq.1)

-- ---- differences add up

module _ {X : Type 0} where
  pub differences_add : (f g h : List ℕ → X) (ps qs : List (List ℕ)) → AreDifferences f g ps → AreDifferences g h qs → AllByRecursion (λ p. is_among p qs ≡ false) ps → AreDifferences f h (ps ++ qs)
  differences_add f g h ps qs d e apart = record {
    once = distinct_append ps qs d.once e.once apart;
    each = all_append (λ p. f p ≢ h p) ps qs
        (all_both (λ p. f p ≢ g p) (λ p. is_among p qs ≡ false) (λ p. f p ≢ h p) ps (λ p n out same. n (same ∙ sym (e.only p out))) d.each apart)
        (all_both (λ q. g q ≢ h q) (λ q. is_among q qs ≡ true) (λ q. f q ≢ h q) qs (λ q n here same. n (sym (d.only q (absent ps qs q apart here)) ∙ same)) e.each (members qs));
    only = λ q out.
        let parts = false_parts (is_among q ps) (is_among q qs) (sym (list_any-append (same_text q) ps qs) ∙ out) in
        d.only q parts.0 ∙ e.only q parts.1;
  }

-- ---- differences have one number

-- places without the first that is one
without : List ℕ → List (List ℕ) → List (List ℕ)
without p [] = []
without p (q ∷ qs) = cond (same_text p q) qs (q ∷ without p qs)

without_length : (p : List ℕ) (qs : List (List ℕ)) → is_among p qs ≡ true → length qs ≡ length (without p qs) + 1
unfolding without
without_length p [] h = absurd (false≢true h)
without_length p (q ∷ qs) h =
    elim (cases_Bool (same_text p q)) [
      | inl e ↦ let f : length (without p (q ∷ qs)) ≡ length qs = ap (λ b. length (cond b qs (q ∷ without p qs))) e in omega arith
      | inr e ↦
          let f : length (without p (q ∷ qs)) ≡ suc (length (without p qs)) = ap (λ b. length (cond b qs (q ∷ without p qs))) e in
          let more = without_length p qs (sym (ap (λ b. b || is_among p qs) e) ∙ h) in
          omega (arith, more)
    ]

still_among : (p r : List ℕ) (qs : List (List ℕ)) → same_text p r ≡ false → is_among r qs ≡ true → is_among r (without p qs) ≡ true
unfolding without
still_among p r [] other h = h
still_among p r (q ∷ qs) other h =
    elim (cases_Bool (same_text p q)) [
      | inl e ↦
          let apart : same_text r q ≡ false = false_from_ne_true (same_text r q) (λ s. false≢true (sym other ∙ ap (same_text p) (same_text_is r q s) ∙ e)) in
          ap (λ b. is_among r (cond b qs (q ∷ without p qs))) e ∙ sym (ap (λ b. b || is_among r qs) apart) ∙ h
      | inr e ↦ ap (λ b. is_among r (cond b qs (q ∷ without p qs))) e
          ∙ elim (cases_Bool (same_text r q)) [
            | inl s ↦ ap (λ b. b || is_among r (without p qs)) s
            | inr s ↦ ap (λ b. b || is_among r (without p qs)) s ∙ still_among p r qs other (sym (ap (λ b. b || is_among r qs) s) ∙ h)
          ]
    ]

all_still : (p : List ℕ) (ps qs : List (List ℕ)) → is_among p ps ≡ false → AllByRecursion (λ r. is_among r qs ≡ true) ps → AllByRecursion (λ r. is_among r (without p qs) ≡ true) ps
all_still p [] qs out h = tt
all_still p (r ∷ ps) qs out h =
    let parts = false_parts (same_text p r) (is_among p ps) out in
    (still_among p r qs parts.0 h.0, all_still p ps qs parts.1 h.1)

-- different places that are all among others are no more than those
pub no_more : (ps qs : List (List ℕ)) → are_distinct ps ≡ true → AllByRecursion (λ p. is_among p qs ≡ true) ps → length ps ≤ length qs
no_more [] qs d h = omega arith
no_more (p ∷ ps) qs d h =
    let both = and_parts (not (is_among p ps)) (are_distinct ps) d in
    let fewer = no_more ps (without p qs) both.1 (all_still p ps qs (not-true (is_among p ps) both.0) h.1) in
    let one = without_length p qs h.0 in
    omega (arith, fewer, one)

module _ {X : Type 0} where
  within : (f g : List ℕ → X) (ps qs : List (List ℕ)) → AreDifferences f g qs → AllByRecursion (λ p. f p ≢ g p) ps → AllByRecursion (λ p. is_among p qs ≡ true) ps
  within f g [] qs e h = tt
  within f g (p ∷ ps) qs e h = (there (is_among p qs) refl, within f g ps qs e h.1)
    where
      there : (b : Bool) → is_among p qs ≡ b → b ≡ true
      there true s = refl
      there false s = absurd (h.0 (e.only p s))

  pub differences_are_counted : (f g : List ℕ → X) (ps qs : List (List ℕ)) → AreDifferences f g ps → AreDifferences f g qs → length ps ≡ length qs
  differences_are_counted f g ps qs d e =
      let few = no_more ps qs d.once (within f g ps qs e d.each) in
      let more = no_more qs ps e.once (within f g qs ps d e.each) in
      omega (arith, few, more)

-- ---- changes that alter their rows

module _ {Key Row : Type 0} where
  abbrev pub place_of : Codec Key Row → Key × Option Row → List ℕ
  place_of c x = place c x.0

  -- at another place nothing has changed
  away : (c : Codec Key Row) (t : Tables) (x : Key × Option Row) (q : List ℕ) → same_text q (place_of c x) ≡ false → tables.get (with_change c t x) q ≡ tables.get t q
  away c t x q other =
      get_after_change c t x q ∙ ap (λ b. cond b (option_map c.row_bytes x.1) (tables.get t q))
      (false_from_ne_true (eq_by_cmp bytes_cmp q (place_of c x)) (λ e. false≢true (sym other ∙ ap (λ p. same_text p (place_of c x)) (same_place q (place_of c x) e) ∙ same_text_itself (place_of c x))))

  here : (c : Codec Key Row) (t : Tables) (x : Key × Option Row) → tables.get (with_change c t x) (place_of c x) ≡ option_map c.row_bytes x.1
  here c t x = get_after_change c t x (place_of c x) ∙ ap (λ b. cond b (option_map c.row_bytes x.1) (tables.get t (place_of c x))) (ap is_eq (tied (place_of c x) (place_of c x) refl))

  one_differs : (c : Codec Key Row) (t : Tables) (x : Key × Option Row) → (tables.get t (place_of c x) ≢ option_map c.row_bytes x.1) → AreDifferences (tables.get t) (tables.get (with_change c t x)) (place_of c x ∷ [])
  one_differs c t x real = record {
    once = refl;
    each = (λ same. real (same ∙ here c t x), tt);
    only = λ q out. sym (away c t x q ((false_parts (same_text q (place_of c x)) false out).0));
  }

  real_later : (c : Codec Key Row) (t : Tables) (x : Key × Option Row) (xs : List (Key × Option Row)) → is_among (place_of c x) (map (place_of c) xs) ≡ false
      → AllByRecursion (λ y. tables.get t (place_of c y) ≢ option_map c.row_bytes y.1) xs → AllByRecursion (λ y. tables.get (with_change c t x) (place_of c y) ≢ option_map c.row_bytes y.1) xs
  real_later c t x [] out h = tt
  real_later c t x (y ∷ xs) out h =
      let parts = false_parts (same_text (place_of c x) (place_of c y)) (is_among (place_of c x) (map (place_of c) xs)) out in
      let turned : same_text (place_of c y) (place_of c x) ≡ false = false_from_ne_true (same_text (place_of c y) (place_of c x))
      (λ e. false≢true (sym parts.0 ∙ ap (same_text (place_of c x)) (same_text_is (place_of c y) (place_of c x) e) ∙ same_text_itself (place_of c x))) in
      (λ same. h.0 (sym (away c t x (place_of c y) turned) ∙ same), real_later c t x xs parts.1 h.1)

  pub changes_differ : (c : Codec Key Row) (t : Tables) (xs : List (Key × Option Row)) → AreReal c t xs → AreDifferences (tables.get t) (tables.get (with_changes c t xs)) (map (place_of c) xs)
  changes_differ c t [] real = record { once = refl; each = tt; only = λ q out. refl }
  changes_differ c t (x ∷ xs) real =
      let both = and_parts (not (is_among (place_of c x) (map (place_of c) xs))) (are_distinct (map (place_of c) xs)) real.apart in
      let out = not-true (is_among (place_of c x) (map (place_of c) xs)) both.0 in
      differences_add (tables.get t) (tables.get (with_change c t x)) (tables.get (with_changes c (with_change c t x) xs)) (place_of c x ∷ []) (map (place_of c) xs)
      (one_differs c t x real.each.0)
      (changes_differ c (with_change c t x) xs (record { apart = both.1; each = real_later c t x xs out real.each.1 }))
      (out, tt)

pub tables_differences_add : DifferencesAdd
tables_differences_add t u v ps qs d e apart = differences_add (tables.get t) (tables.get u) (tables.get v) ps qs d e apart

pub tables_differences_are_counted : DifferencesAreCounted
tables_differences_are_counted t u ps qs d e = differences_are_counted (tables.get t) (tables.get u) ps qs d e
