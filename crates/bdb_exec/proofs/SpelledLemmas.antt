-- What keys and rows spell is read back from their bytes.
use Rattle.std.proofs.Common.{◌≡◌, ◌∙◌, ℕ, zero, suc, ◌+◌, ◌-◌, ◌≤◌, ◌<◌, ◌^◌, ℤ, pos, negsuc, lit<, Bool, true, false, cond, nat_eq, nat_le, nat_lt, List, [], ◌∷◌, ◌++◌, length, drop, refl, ap, arith}
use Rattle.std.specs.Int.{w64}
use Rattle.std.specs.List.{list_all}
use Rattle.std.specs.Prelude.{FitsSigned}
use Rattle.std.proofs.lemmas.Bool.{and_parts, cond-true, cond-false}
use Rattle.std.proofs.lemmas.Bool.Decides.{nat_tests}
use Rattle.std.proofs.lemmas.List.{append_assoc, length-append}
use Rattle.std.proofs.lemmas.Nat.{from_be_bytes-to_be_bytes_4, from_be_bytes-to_be_bytes_8}
use Rattle.bdb_base.specs.declared.kinds.Sign.{Sign}
use Rattle.bdb_base.specs.declared.kinds.Sign.TheVariants.{Plus, Minus}
use Rattle.bdb_base.specs.declared.kinds.Value.{Value}
use Rattle.bdb_base.specs.declared.kinds.Value.TheVariants.{Int, Text}
use Rattle.bdb_base.specs.declared.tuple.Tuple.{Tuple}
use Rattle.bdb_base.specs.Same.{tuple_of}
use Rattle.bdb_key.specs.Bytes.{num_bytes, raised, text_bytes, value_bytes, values_bytes}
use Rattle.bdb_key.specs.Grammar.{IsNum, IsPlain, ArePlain}
use Rattle.bdb_key.specs.Rows.{IsTupleRow, tuple_bytes, mark_bytes}
use Rattle.bdb_key.proofs.Compared.{IsPrinting, printing, raised_lt}
use Rattle.bdb_exec.specs.Spelled.{number_in, lowered, before_end, behind_end, values_in, tuple_in}
use Rattle.bdb_exec.specs.Seen.{sign_in}

pub number_back : (n : ℕ) → IsNum n → number_in (num_bytes n) ≡ n
number_back n h = from_be_bytes-to_be_bytes_4 n h

whole_back : (m : ℤ) → FitsSigned w64 m → lowered (raised m) ≡ m
whole_back (pos n) f =
    cond-true (nat_le (2 ^ 63) (n + 2 ^ 63)) (pos (n + 2 ^ 63 - 2 ^ 63)) (negsuc (2 ^ 63 - 1 - (n + 2 ^ 63))) (above n) ∙ ap pos (back n)
  where
    above : (n : ℕ) → nat_le (2 ^ 63) (n + 2 ^ 63) ≡ true
    above n = grind (arith, nat_tests)

    back : (n : ℕ) → n + 2 ^ 63 - 2 ^ 63 ≡ n
    back n = omega arith
whole_back (negsuc n) f =
    cond-false (nat_le (2 ^ 63) (2 ^ 63 - 1 - n)) (pos (2 ^ 63 - 1 - n - 2 ^ 63)) (negsuc (2 ^ 63 - 1 - (2 ^ 63 - 1 - n))) (below n) ∙ ap negsuc (back n (omega (arith, f.sfits)))
  where
    below : (n : ℕ) → nat_le (2 ^ 63) (2 ^ 63 - 1 - n) ≡ false
    below n = grind (arith, nat_tests)

    back : (n : ℕ) → n < 2 ^ 63 → 2 ^ 63 - 1 - (2 ^ 63 - 1 - n) ≡ n
    back n lt = omega arith

no_end : (b : ℕ) → nat_le 32 b ≡ true → nat_eq b 0 ≡ false
no_end b h = grind (arith, nat_tests)

pub before_back : (text rest : List ℕ) → IsPrinting text → before_end (text ++ 0 ∷ rest) ≡ text
before_back [] rest h = refl
before_back (b ∷ text) rest h =
    let p = and_parts (nat_le 32 b) (list_all (λ c. nat_le 32 c) text) h in
    cond-false (nat_eq b 0) [] (b ∷ before_end (text ++ 0 ∷ rest)) (no_end b p.0) ∙ ap (λ (x : List ℕ). b ∷ x) (before_back text rest p.1)

behind_back : (text rest : List ℕ) → IsPrinting text → behind_end (text ++ 0 ∷ rest) ≡ rest
behind_back [] rest h = refl
behind_back (b ∷ text) rest h =
    let p = and_parts (nat_le 32 b) (list_all (λ c. nat_le 32 c) text) h in
    cond-false (nat_eq b 0) (text ++ 0 ∷ rest) (behind_end (text ++ 0 ∷ rest)) (no_end b p.0) ∙ behind_back text rest p.1

-- the texts of users' rows
pub name_back : (name : List ℕ) → IsPlain name → before_end (drop 1 (text_bytes name)) ≡ name
name_back name h = before_back name [] (printing name h)

end_then : (text rest : List ℕ) → (text ++ 0 ∷ []) ++ rest ≡ text ++ 0 ∷ rest
end_then text rest = append_assoc text (0 ∷ []) rest

pub values_back : (most : ℕ) (vs : List Value) → ArePlain vs → length vs ≤ most → values_in most (values_bytes vs) ≡ vs
values_back zero [] a le = refl
values_back (suc most) [] a le = refl
values_back zero (v ∷ vs) a le = absurd (omega arith)
values_back (suc most) (Int m ∷ vs) a le =
    let rest = values_back most vs a.1 (omega arith) in
    ap (λ n. Int (lowered n) ∷ values_in most (values_bytes vs)) (from_be_bytes-to_be_bytes_8 (raised m) (raised_lt m a.0))
    ∙ ap (λ n. Int n ∷ values_in most (values_bytes vs)) (whole_back m a.0)
    ∙ ap (λ (x : List Value). Int m ∷ x) rest
values_back (suc most) (Text t ∷ vs) a le =
    let rest = values_back most vs a.1 (omega arith) in
    let plain = printing t a.0 in
    let more = values_bytes vs in
    ap (λ x. Text (before_end x) ∷ values_in most (behind_end x)) (end_then t more)
    ∙ ap (λ x. Text x ∷ values_in most (behind_end (t ++ 0 ∷ more))) (before_back t more plain)
    ∙ ap (λ x. Text t ∷ values_in most x) (behind_back t more plain)
    ∙ ap (λ (x : List Value). Text t ∷ x) rest

-- values have no fewer bytes
pub values_short : (vs : List Value) → length vs ≤ length (values_bytes vs)
values_short [] = omega arith
values_short (v ∷ vs) =
    let rest = values_short vs in
    let some = value_some v in
    let whole = length-append (value_bytes v) (values_bytes vs) in
    omega arith
  where
    value_some : (v : Value) → 0 < length (value_bytes v)
    value_some (Int m) = lit< tt
    value_some (Text t) = omega arith

pub tuple_back : (u : Tuple) → IsTupleRow u → tuple_in (tuple_bytes u) ≡ u
tuple_back u h =
    let bytes = length-append (num_bytes u.rel) (values_bytes u.vals) in
    let short = values_short u.vals in
    ap (λ n. tuple_of n (values_in (length (tuple_bytes u)) (values_bytes u.vals))) (number_back u.rel h.rel)
    ∙ ap (tuple_of u.rel) (values_back (length (tuple_bytes u)) u.vals h.plain (omega arith))

pub sign_back : (s : Sign) (b : Bool) → sign_in (mark_bytes (s, b)) ≡ s
sign_back Plus false = ap (λ n. cond (nat_lt n 2) Plus Minus) (number_back 0 (lit< tt))
sign_back Plus true = ap (λ n. cond (nat_lt n 2) Plus Minus) (number_back 1 (lit< tt))
sign_back Minus false = ap (λ n. cond (nat_lt n 2) Plus Minus) (number_back 2 (lit< tt))
sign_back Minus true = ap (λ n. cond (nat_lt n 2) Plus Minus) (number_back 3 (lit< tt))
