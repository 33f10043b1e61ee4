-- Pieces that are written in parts.
use Rattle.std.proofs.Common.{◌≡◌, ◌∙◌, ℕ, ◌+◌, ◌/◌, ◌%◌, ◌<◌, ◌≤◌, suc, true, false, not, nat_eq, nat_lt, cond, inl, inr, List, [], ◌∷◌, ◌++◌, length, take, drop, Option, Some, None, refl, ap, sym, subst, append_assoc, arith}
use Rattle.std.specs.Fmt.{decimal}
use Rattle.std.specs.Io.KnownBytes.{Appends}
use Rattle.std.specs.List.{position, position_or_len}
use Rattle.std.proofs.KnownBytes.{Appends-trans}
use Rattle.std.proofs.lemmas.Bool.{cases_Bool, cond-true, cond-false, ltb-false}
use Rattle.std.proofs.lemmas.Fmt.{decimal_digit, decimal_step}
use Rattle.std.proofs.lemmas.List.{append-nil, drop_all, length-append, take-append-le, take_all, nil_from_length}
use Rattle.std.proofs.lemmas.List.Quantifiers.{position-Some}
use Rattle.bdb_many.specs.Labels.{labelled_from}
use Rattle.bdb_stream.proofs.HandledLemmas.{grows_as}

pub part_as : (a b : Option (List ℕ)) (x y : List ℕ) → x ≡ y → (k : ℕ) × (k ≤ length x) × Appends a b (take k x) → (k : ℕ) × (k ≤ length y) × Appends a b (take k y)
part_as a b x y e h = let P : List ℕ → Type 0 = λ l. (k : ℕ) × (k ≤ length l) × Appends a b (take k l) in subst P e h

take_behind : (n : ℕ) (xs ys : List ℕ) → take (length xs + n) (xs ++ ys) ≡ xs ++ take n ys
take_behind n [] ys = ap (λ k. take k ys) (zero_and n)
  where
    zero_and : (n : ℕ) → 0 + n ≡ n
    zero_and n = omega arith
take_behind n (x ∷ xs) ys = ap (λ k. take k (x ∷ (xs ++ ys))) (one_and (length xs) n) ∙ ap (λ l. x ∷ l) (take_behind n xs ys)
  where
    one_and : (m n : ℕ) → suc m + n ≡ suc (m + n)
    one_and m n = omega arith

-- the first part was written, and a front of the second
pub wrote_part : (a b c : Option (List ℕ)) (x y : List ℕ) → Appends a b x → (k : ℕ) × (k ≤ length y) × Appends b c (take k y)
    → (k : ℕ) × (k ≤ length (x ++ y)) × Appends a c (take k (x ++ y))
wrote_part a b c x y h k = (
  length x + k.0,
  subst (λ n. length x + k.0 ≤ n) (sym (length-append x y)) (omega (arith, k.1)),
  grows_as a c (x ++ take k.0 y) (take (length x + k.0) (x ++ y)) (sym (take_behind k.0 x y)) (Appends-trans a b c x (take k.0 y) h k.2),
)

-- a front of the first part was written
pub wrote_less : (a b : Option (List ℕ)) (x y : List ℕ) → (k : ℕ) × (k ≤ length x) × Appends a b (take k x) → (k : ℕ) × (k ≤ length (x ++ y)) × Appends a b (take k (x ++ y))
wrote_less a b x y h = (
  h.0,
  subst (λ n. h.0 ≤ n) (sym (length-append x y)) (omega (arith, h.1)),
  grows_as a b (take h.0 x) (take h.0 (x ++ y)) (sym (take-append-le h.0 x y h.1)) h.2,
)

-- ---- numbers

pub two_digits : (n : ℕ) → 10 ≤ n → n < 100 → decimal n ≡ (48 + n / 10) ∷ ((48 + n % 10) ∷ [])
two_digits n low high =
    let tens : n / 10 < 10 = omega (arith, high) in
    decimal_step n low (omega (arith, high)) ∙ ap (λ d. d ++ ((48 + n % 10) ∷ [])) (decimal_digit (n / 10) tens)

-- ---- lines

-- where the first line feed stands
abbrev pub feed_of : List ℕ → ℕ
feed_of bytes = position_or_len (λ b. nat_eq b 10) bytes

suc_is : (k : ℕ) → suc k ≡ 1 + k
suc_is k = omega arith

up_to_feed : (m bytes : List ℕ) → labelled_from m false bytes ≡ take (suc (feed_of bytes)) bytes ++ labelled_from m true (drop (suc (feed_of bytes)) bytes)
up_to_feed m [] = refl
up_to_feed m (b ∷ bytes) =
    elim (nat_eq b 10) as (λ t. b ∷ labelled_from m t bytes
    ≡ take (suc (cond (not t) (1 + feed_of bytes) 0)) (b ∷ bytes) ++ labelled_from m true (drop (suc (cond (not t) (1 + feed_of bytes) 0)) (b ∷ bytes))) [
      | true ↦ refl
      | false ↦ ap (λ l. b ∷ l) (up_to_feed m bytes ∙ ap (λ n. take n bytes ++ labelled_from m true (drop n bytes)) (suc_is (feed_of bytes)))
    ]

front_label : (m bytes : List ℕ) → 0 < length bytes → labelled_from m true bytes ≡ m ++ labelled_from m false bytes
front_label m [] some = absurd (omega (arith, some))
front_label m (b ∷ bytes) some = refl

-- the first line of a text has a label before it, and the others follow
abbrev pub CutsLine : List ℕ → ℕ → Type 0
CutsLine text k = (m : List ℕ) → labelled_from m true text ≡ m ++ (take k text ++ labelled_from m true (drop k text))

found_feed : (bytes : List ℕ) (at : ℕ) → position (λ b. nat_eq b 10) bytes ≡ Some at → at ≡ feed_of bytes
found_feed bytes at h = elim (cases_Bool (nat_lt (feed_of bytes) (length bytes))) [
  | inl t ↦ let e : Some (feed_of bytes) ≡ Some at = sym (cond-true (nat_lt (feed_of bytes) (length bytes)) (Some (feed_of bytes)) None t) ∙ h in cc
  | inr f ↦ let e : None ≡ Some at = sym (cond-false (nat_lt (feed_of bytes) (length bytes)) (Some (feed_of bytes)) None f) ∙ h in absurd cc
]

pub cut_at_feed : (bytes : List ℕ) (at : ℕ) → 0 < length bytes → position (λ b. nat_eq b 10) bytes ≡ Some at → CutsLine bytes (at + 1)
cut_at_feed bytes at some h m =
    front_label m bytes some ∙ ap (λ l. m ++ l) (up_to_feed m bytes ∙ ap (λ n. take n bytes ++ labelled_from m true (drop n bytes)) (more at (feed_of bytes) (found_feed bytes at h)))
  where
    more : (x y : ℕ) → x ≡ y → suc y ≡ x + 1
    more x y e = omega arith

pub feed_within : (bytes : List ℕ) (at : ℕ) → position (λ b. nat_eq b 10) bytes ≡ Some at → at + 1 ≤ length bytes
feed_within bytes at h = let found = position-Some (λ b. nat_eq b 10) bytes at 0 h in omega (arith, found.0)

no_feed : (bytes : List ℕ) → position (λ b. nat_eq b 10) bytes ≡ None → length bytes ≤ feed_of bytes
no_feed bytes h = elim (cases_Bool (nat_lt (feed_of bytes) (length bytes))) [
  | inl t ↦ let e : Some (feed_of bytes) ≡ None = sym (cond-true (nat_lt (feed_of bytes) (length bytes)) (Some (feed_of bytes)) None t) ∙ h in absurd cc
  | inr f ↦ omega (arith, ltb-false (feed_of bytes) (length bytes) f)
]

pub cut_at_end : (bytes : List ℕ) → 0 < length bytes → position (λ b. nat_eq b 10) bytes ≡ None → CutsLine bytes (length bytes)
cut_at_end bytes some h m =
    let far : length bytes ≤ suc (feed_of bytes) = omega (arith, no_feed bytes h) in
    front_label m bytes some ∙ ap (λ l. m ++ l) (up_to_feed m bytes
    ∙ ap (λ l. l ++ labelled_from m true (drop (suc (feed_of bytes)) bytes)) (take_all (suc (feed_of bytes)) bytes far ∙ sym (take_all (length bytes) bytes (omega arith)))
    ∙ ap (λ l. take (length bytes) bytes ++ labelled_from m true l) (drop_all (suc (feed_of bytes)) bytes far ∙ sym (drop_all (length bytes) bytes (omega arith))))

-- ---- the lines that are left

-- so much of what is labelled is written, and the labelled lines of the rest are left
abbrev pub IsLeft : List ℕ → List ℕ → List ℕ → Option (List ℕ) → Option (List ℕ) → Type 0
IsLeft m all rest a b = (front : List ℕ) × (labelled_from m true all ≡ front ++ labelled_from m true rest) × Appends a b front

next_line : (m all rest : List ℕ) (k : ℕ) → (front : List ℕ) → labelled_from m true all ≡ front ++ labelled_from m true rest → CutsLine rest k
    → labelled_from m true all ≡ front ++ ((m ++ take k rest) ++ labelled_from m true (drop k rest))
next_line m all rest k front h cut = h ∙ ap (λ l. front ++ l) (cut m ∙ sym (append_assoc m (take k rest) (labelled_from m true (drop k rest))))

pub line_on : (m all rest others piece : List ℕ) (k : ℕ) (a b c : Option (List ℕ)) → IsLeft m all rest a b → CutsLine rest k → piece ≡ take k rest → others ≡ drop k rest
    → Appends b c (m ++ piece) → IsLeft m all others a c
line_on m all rest others piece k a b c h cut is left written = (
  h.0 ++ (m ++ take k rest),
  next_line m all rest k h.0 h.1 cut ∙ sym (append_assoc h.0 (m ++ take k rest) (labelled_from m true (drop k rest)))
      ∙ ap (λ l. (h.0 ++ (m ++ take k rest)) ++ labelled_from m true l) (sym left),
  Appends-trans a b c h.0 (m ++ take k rest) h.2 (grows_as b c (m ++ piece) (m ++ take k rest) (ap (λ l. m ++ l) is) written),
)

pub line_stops : (m all rest piece : List ℕ) (k : ℕ) (a b c : Option (List ℕ)) → IsLeft m all rest a b → CutsLine rest k → piece ≡ take k rest
    → (j : ℕ) × (j ≤ length (m ++ piece)) × Appends b c (take j (m ++ piece)) → (j : ℕ) × (j ≤ length (labelled_from m true all)) × Appends a c (take j (labelled_from m true all))
line_stops m all rest piece k a b c h cut is part =
    let x = m ++ take k rest in
    let y = labelled_from m true (drop k rest) in
    let P : List ℕ → Type 0 = λ l. (j : ℕ) × (j ≤ length l) × Appends a c (take j l) in
    let Q : List ℕ → Type 0 = λ l. (j : ℕ) × (j ≤ length (m ++ l)) × Appends b c (take j (m ++ l)) in
    subst P (sym (next_line m all rest k h.0 h.1 cut)) (wrote_part a b c h.0 (x ++ y) h.2 (wrote_less b c x y (subst Q is part)))

pub lines_end : (m all rest : List ℕ) (a b : Option (List ℕ)) → IsLeft m all rest a b → length rest ≡ 0 → Appends a b (labelled_from m true all)
lines_end m all rest a b h none =
    grows_as a b h.0 (labelled_from m true all) (sym (h.1 ∙ ap (λ l. h.0 ++ labelled_from m true l) (nil_from_length rest none) ∙ append-nil h.0)) h.2
