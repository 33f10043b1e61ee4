-- A beginning is what the longer path begins with, and an end is what it ends with.
use Rattle.std.proofs.Common.{◌≡◌, ◌∙◌, ℕ, ◌-◌, suc, true, false, ◌&&◌, ◌||◌, List, [], ◌∷◌, length, take, drop, refl, ap, sym, inl, inr, arith, nat_eq, zero, ◌≤◌, ◌++◌}
use Rattle.std.proofs.lemmas.Bool.{false_from_ne_true, cases_lt, and_from, eq-eqb, false≢true, and_parts, eqb-true, or_left, or_cases}
use Rattle.bdb_base.specs.Same.{same_path, same_text}
use Rattle.bdb_base.specs.SameLemmas.{same_path-Decides, same_text-Decides}
use Rattle.bdb_base.specs.Segments.{is_prefix, is_suffix}
use Rattle.bdb_base.proofs.ListLemmas.{or_false}

pub is_prefix_begins : (w p : List ℕ) → is_prefix w p ≡ same_path w (take (length w) p)
is_prefix_begins [] p = refl
is_prefix_begins (i ∷ w) [] = refl
is_prefix_begins (i ∷ w) (j ∷ p) = ap (λ b. nat_eq i j && b) (is_prefix_begins w p)

-- paths of different lengths differ
pub differs_by_length : (v p : List ℕ) → (length v ≡ length p → ⊥) → same_path v p ≡ false
differs_by_length v p n = false_from_ne_true (same_path v p) (λ h. n (ap length ((same_path-Decides v p).0 h)))

pub is_suffix_ends : (v p : List ℕ) → is_suffix v p ≡ same_path v (drop (length p - length v) p)
is_suffix_ends v [] =
    let e : 0 - length v ≡ 0 = omega arith in
    ap (λ n. same_path v (drop n [])) (sym e)
is_suffix_ends v (j ∷ p) = elim (cases_lt (length p) (length v)) [
  | inl h ↦
      let e : suc (length p) - length v ≡ 0 = omega arith in
      let k : length p - length v ≡ 0 = omega arith in
      let n : (length v ≡ length p → ⊥) = λ q. absurd (omega arith) in
      ap (λ b. same_path v (j ∷ p) || b) (is_suffix_ends v p ∙ ap (λ m. same_path v (drop m p)) k ∙ differs_by_length v p n)
      ∙ or_false (same_path v (j ∷ p)) ∙ ap (λ m. same_path v (drop m (j ∷ p))) (sym e)
  | inr h ↦
      let e : suc (length p) - length v ≡ suc (length p - length v) = omega arith in
      let n : (length v ≡ suc (length p) → ⊥) = λ q. absurd (omega arith) in
      ap (λ b. b || is_suffix v p) (differs_by_length v (j ∷ p) n) ∙ is_suffix_ends v p ∙ ap (λ m. same_path v (drop m (j ∷ p))) (sym e)
]

pub take_is_prefix : (w : List ℕ) (k : ℕ) → is_prefix (take k w) w ≡ true
take_is_prefix w zero = refl
take_is_prefix [] (suc k) = refl
take_is_prefix (i ∷ w) (suc k) = and_from (nat_eq i i) (is_prefix (take k w) w) (eq-eqb i i refl) (take_is_prefix w k)

pub prefix_is_take : (w p : List ℕ) → is_prefix w p ≡ true → w ≡ take (length w) p
prefix_is_take [] p h = refl
prefix_is_take (i ∷ w) [] h = absurd (false≢true h)
prefix_is_take (i ∷ w) (j ∷ p) h =
    let k = and_parts (nat_eq i j) (is_prefix w p) h in
    ap (λ n. n ∷ w) (eqb-true i j k.0) ∙ ap (λ (z : List ℕ). j ∷ z) (prefix_is_take w p k.1)

pub length-prefix : (w p : List ℕ) → is_prefix w p ≡ true → length w ≤ length p
length-prefix [] p h = omega arith
length-prefix (i ∷ w) [] h = absurd (false≢true h)
length-prefix (i ∷ w) (j ∷ p) h = let k = length-prefix w p (and_parts (nat_eq i j) (is_prefix w p) h).1 in omega arith

pub is_prefix_shorter : (p r q : List ℕ) → is_prefix (p ++ r) q ≡ true → is_prefix p q ≡ true
is_prefix_shorter [] r q e = refl
is_prefix_shorter (i ∷ p) r [] e = e
is_prefix_shorter (i ∷ p) r (j ∷ q) e = let k = and_parts (nat_eq i j) (is_prefix (p ++ r) q) e in and_from (nat_eq i j) (is_prefix p q) k.0 (is_prefix_shorter p r q k.1)

pub same_path_itself : (w : List ℕ) → same_path w w ≡ true
same_path_itself w = (same_path-Decides w w).1 refl

pub suffix_itself : (w : List ℕ) → is_suffix w w ≡ true
suffix_itself [] = refl
suffix_itself (i ∷ w) = or_left (same_path (i ∷ w) (i ∷ w)) (is_suffix (i ∷ w) w) (same_path_itself (i ∷ w))

pub length-suffix : (v w : List ℕ) → is_suffix v w ≡ true → length v ≤ length w
length-suffix v [] h = let e = ap length ((same_path-Decides v []).0 h) in omega arith
length-suffix v (j ∷ w) h = elim (or_cases (same_path v (j ∷ w)) (is_suffix v w) h) [
  | inl a ↦ let e = ap length ((same_path-Decides v (j ∷ w)).0 a) in omega arith
  | inr b ↦ let k = length-suffix v w b in omega arith
]

pub empty_differs : (w : List ℕ) (i : ℕ) → same_path [] (w ++ i ∷ []) ≡ false
empty_differs [] i = refl
empty_differs (k ∷ w) i = refl

pub same_text_is : (p q : List ℕ) → same_text p q ≡ true → p ≡ q
same_text_is p q e = (same_text-Decides p q).0 e

pub same_text_itself : (p : List ℕ) → same_text p p ≡ true
same_text_itself p = (same_text-Decides p p).1 refl
