-- What std's reading of a number says of a spelling.
use Rattle.std.proofs.Common.{◌≡◌, ℕ, zero, suc, not, ◌^◌, ◌<◌, ◌==◌, Bool, true, false, cond, List, [], ◌∷◌, Option, Some, None, Err, Result, length, refl, sym, ap, ◌∙◌, arith, rules, pos, negsuc, ℤ, w64, subst, drop}
use Rattle.std.specs.Prelude.{FitsSigned}
use Rattle.std.specs.Char.{is_ascii_digit}
use Rattle.std.specs.List.{list_all}
use Rattle.std.specs.Str.Parse.{signed_digits_value, without_leading_sign, IsNumeral, ParsesSigned, digits_value}
use Rattle.std.proofs.lemmas.Bool.{cond-true, cond-false, lt-ltb, ltb-true, and_parts, false_from_ne_true}
use Rattle.std.proofs.lemmas.Str.Parse.{IsDigitsTest, IsNumeralModel, numerals_by_value}
use Rattle.std.proofs.lemmas.Int.{ints}
use Rattle.std.proofs.lemmas.Bool.Decides.{nat_tests}
use Rattle.bdb_parse.specs.declared.wide.Wide.{Wide}
use Rattle.bdb_parse.specs.Gives.{number_in, narrow, wide_number}
use Rattle.bdb_parse.specs.Reading.{◌>>=◌}
use Rattle.bdb_parse.specs.Numbers.{are_digits, is_number, is_i64}

pub fits_is_i64 : (n : ℤ) → FitsSigned w64 n → is_i64 n ≡ true
fits_is_i64 (pos n) h = lt-ltb n (2 ^ 63) (omega (arith, ints))
fits_is_i64 (negsuc n) h = lt-ltb n (2 ^ 63) (omega (arith, ints))

pub wide_is_no_i64 : (n : ℤ) → (FitsSigned w64 n → ⊥) → is_i64 n ≡ false
wide_is_no_i64 (pos n) h = false_from_ne_true _ (λ e. h (let lt : n < 2 ^ 63 = ltb-true n (2 ^ 63) e in omega (arith, ints)))
wide_is_no_i64 (negsuc n) h = false_from_ne_true _ (λ e. h (let lt : n < 2 ^ 63 = ltb-true n (2 ^ 63) e in omega (arith, ints)))

pub tells : IsDigitsTest (λ ds. list_all is_ascii_digit ds ≡ true)
tells = search rules

pub digits_own : IsNumeralModel (λ ds. list_all is_ascii_digit ds ≡ true) (digits_value 10)
digits_own = numerals_by_value _ tells

not_zero : (n : ℕ) → not (n == 0) ≡ true → 0 < n
not_zero zero h = cc
not_zero (suc n) h = omega arith

are_digits_numeral : (ds : List ℕ) → are_digits ds ≡ true → IsNumeral 10 ds
are_digits_numeral ds h =
    let p = and_parts (not (length ds == 0)) (list_all is_ascii_digit ds) h in (not_zero (length ds) p.0, digits_own.to ds p.1)

pub digit_is_no_plus : (c : ℕ) → is_ascii_digit c ≡ true → (c == 43) ≡ false
digit_is_no_plus c h = grind (arith, nat_tests)

sign_matters : (c : ℕ) (cs : List ℕ) (b : Bool) → (c == 45) ≡ b → are_digits (cond b cs (c ∷ cs)) ≡ true → IsNumeral 10 (cond b cs (drop (cond (c == 43) 1 0) (c ∷ cs)))
sign_matters c cs true e h = are_digits_numeral cs h
sign_matters c cs false e h =
    let p = and_parts (not (length (c ∷ cs) == 0)) (list_all is_ascii_digit (c ∷ cs)) h in
    let q = and_parts (is_ascii_digit c) (list_all is_ascii_digit cs) p.1 in
    subst (λ b. IsNumeral 10 (drop (cond b 1 0) (c ∷ cs))) (sym (digit_is_no_plus c q.0)) (are_digits_numeral (c ∷ cs) h)

pub numeral_of_number : (s : List ℕ) → is_number s ≡ true → IsNumeral 10 (without_leading_sign s)
numeral_of_number [] h = cc
numeral_of_number (c ∷ cs) h = sign_matters c cs (c == 45) refl h

-- what std's reading refuses, of the spellings of numbers, is outside i64
pub parse_wide : {E : Type 0} (wide : Wide) (s : List ℕ) (r : Result ℤ E) (e : E) → is_number s ≡ true → ParsesSigned w64 10 s r → r ≡ Err e → number_in wide s ≡ wide_number wide
parse_wide {E} wide s r e n p q =
    let h : ParsesSigned {E = E} w64 10 s (Err e) = subst (λ (t : Result ℤ E). ParsesSigned w64 10 s t) q p in
    let v : ℤ = signed_digits_value 10 s in
    let out = wide_is_no_i64 v (λ f. h (numeral_of_number s n, f)) in
    ap (λ (o : Option ℤ). o >>= narrow wide) (cond-true (is_number s) (Some v) None n)
    ∙ cond-false (is_i64 v) (Some v) (wide_number wide) out
