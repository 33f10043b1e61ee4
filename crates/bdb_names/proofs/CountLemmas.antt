-- Where as many numbers as are listed are all below their count, the numbers below the count are listed.
use Rattle.std.proofs.Common.{◌≡◌, ◌∙◌, ℕ, ◌≤◌, ◌<◌, Bool, true, false, not, nat_eq, List, [], ◌∷◌, refl, ap, sym, inl, inr, suc, zero, arith, length, filter}
use Rattle.std.proofs.lemmas.Bool.{cases_Bool, and_parts, and_from, or_cases, or_left, or_right, false≢true, false_from_ne_true, true_from_ne_false, cond-true, cond-false, not-true, eqb-true, eq-eqb, ne_eqb, eqb-false}
use Rattle.bdb_base.specs.Causes.{is_listed}
use Rattle.bdb_tables.specs.Names.{are_once}
use Rattle.bdb_names.proofs.LessLemmas.{listed-filter, once-filter}

-- all numbers of a list are below another
abbrev pub AllBelow : ℕ → List ℕ → Type 0
AllBelow c xs = (k : ℕ) → is_listed k xs ≡ true → k < c

-- without one that is listed there is one less
length_less : (n : ℕ) (xs : List ℕ) → are_once xs ≡ true → length xs ≤ suc (length (filter (λ k. not (nat_eq k n)) xs))
length_less n [] h = omega arith
length_less n (x ∷ xs) h = elim (cases_Bool (nat_eq x n)) [
  | inl t ↦
      let k = and_parts (not (is_listed x xs)) (are_once xs) h in
      let none : is_listed n xs ≡ false = ap (λ y. is_listed y xs) (sym (eqb-true x n t)) ∙ not-true (is_listed x xs) k.0 in
      let same = ap length (unchanged xs none) in
      let gone = ap length (cond-false (not (nat_eq x n)) (x ∷ filter (λ k. not (nat_eq k n)) xs) (filter (λ k. not (nat_eq k n)) xs) (ap not t)) in
      omega arith
  | inr f ↦
      let k = and_parts (not (is_listed x xs)) (are_once xs) h in
      let more = length_less n xs k.1 in
      let kept = ap length (cond-true (not (nat_eq x n)) (x ∷ filter (λ k. not (nat_eq k n)) xs) (filter (λ k. not (nat_eq k n)) xs) (ap not f)) in
      omega arith
]
  where
    unchanged : (ys : List ℕ) → is_listed n ys ≡ false → filter (λ k. not (nat_eq k n)) ys ≡ ys
    unchanged [] e = refl
    unchanged (y ∷ ys) e =
        let a : nat_eq y n ≡ false = ne_eqb y n (λ d. false≢true (sym e ∙ or_left (nat_eq n y) (is_listed n ys) (eq-eqb n y (sym d)))) in
        let b : is_listed n ys ≡ false = false_from_ne_true (is_listed n ys) (λ t. false≢true (sym e ∙ or_right (nat_eq n y) (is_listed n ys) t)) in
        cond-true (not (nat_eq y n)) (y ∷ filter (λ k. not (nat_eq k n)) ys) (filter (λ k. not (nat_eq k n)) ys) (ap not a) ∙ ap (λ (z : List ℕ). y ∷ z) (unchanged ys b)

-- a list of numbers below a count, each once, is no longer than the count
pub no_more_than : (c : ℕ) (xs : List ℕ) → are_once xs ≡ true → AllBelow c xs → length xs ≤ c
no_more_than zero [] h b = omega arith
no_more_than zero (x ∷ xs) h b = let k = b x (or_left (nat_eq x x) (is_listed x xs) (eq-eqb x x refl)) in absurd (omega arith)
no_more_than (suc c) xs h b =
    let f : ℕ → Bool = λ k. not (nat_eq k c) in
    let rest = filter (λ k. not (nat_eq k c)) xs in
    let below : AllBelow c rest = λ k e.
    let p = and_parts (is_listed k xs) (not (nat_eq k c)) (sym (listed-filter (λ k. not (nat_eq k c)) k xs) ∙ e) in
    let l = b k p.0 in
    let d = eqb-false k c (not-true (nat_eq k c) p.1) in
    omega (arith, d) in
    let r = no_more_than c rest (once-filter (λ k. not (nat_eq k c)) xs h) below in
    let l = length_less c xs h in
    omega arith

-- where all are below their count, each number below it is listed
pub none_missing : (xs : List ℕ) → are_once xs ≡ true → AllBelow (length xs) xs → (k : ℕ) → k < length xs → is_listed k xs ≡ true
none_missing xs h b k l = true_from_ne_false (is_listed k xs) (λ f.
    let once = and_from (not (is_listed k xs)) (are_once xs) (ap not f) h in
    let below : AllBelow (length xs) (k ∷ xs) = λ y e. elim (or_cases (nat_eq y k) (is_listed y xs) e) [
      | inl t ↦ let same = eqb-true y k t in omega arith
      | inr t ↦ b y t
    ] in
    let few = no_more_than (length xs) (k ∷ xs) once below in
    absurd (omega arith))
