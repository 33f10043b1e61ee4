-- Numbers of as many bytes come in the order of their bytes.
use Rattle.std.proofs.Common.{◌≡◌, ℕ, zero, suc, ◌+◌, ◌*◌, ◌/◌, ◌%◌, ◌^◌, ◌<◌, ◌≤◌, List, ◌++◌, refl, sym, ap, ◌∙◌, lit<, lit≤, arith, inl, inr, true, nat_eq, false, nat_lt}
use Rattle.std.specs.declared.cmp.Ordering.{Ordering}
use Rattle.std.specs.declared.cmp.Ordering.TheVariants.{Less, Equal, Greater}
use Rattle.std.specs.Ordering.{nat_cmp, ordering_then, is_le, is_lt, is_eq}
use Rattle.std.specs.Cmp.Lexicographic.{slice_cmp}
use Rattle.std.specs.Int.{byte_at, bytes_high_first}
use Rattle.std.proofs.Math.Arith.{mod-mul}
use Rattle.std.proofs.Math.Nat.{pow-suc, one-le-pow, mul_comm, mod-eq_of_lt}
use Rattle.std.proofs.lemmas.Nat.{mul-le, mod_below}
use Rattle.std.proofs.lemmas.Bool.{cases_lt}
use Rattle.std.proofs.lemmas.Bool.Decides.{nat_tests}

pub less : (m n : ℕ) → m < n → nat_cmp m n ≡ Less
less m n h = grind (arith, nat_tests)

pub greater : (m n : ℕ) → n < m → nat_cmp m n ≡ Greater
greater m n h = grind (arith, nat_tests)

pub equal : (n : ℕ) → nat_cmp n n ≡ Equal
equal n = grind (arith, nat_tests)

pub then_assoc : (a b c : Ordering) → ordering_then (ordering_then a b) c ≡ ordering_then a (ordering_then b c)
then_assoc Less b c = refl
then_assoc Equal b c = refl
then_assoc Greater b c = refl

shifted : (k m n : ℕ) → nat_cmp (k + m) (k + n) ≡ nat_cmp m n
shifted k m n = grind (arith, nat_tests)

-- a digit and what is below it
digits : (base a r c s : ℕ) → r < base → s < base → nat_cmp (a * base + r) (c * base + s) ≡ ordering_then (nat_cmp a c) (nat_cmp r s)
digits base a r c s hr hs =
    elim (cases_lt a c) [
      | inl lt ↦
          let h : (a + 1) * base ≤ c * base = mul-le (a + 1) base c base (omega arith) (omega arith) in
          less (a * base + r) (c * base + s) (omega arith) ∙ ap (λ o. ordering_then o (nat_cmp r s)) (sym (less a c lt))
      | inr le ↦ elim (cases_lt c a) [
        | inl gt ↦
            let h : (c + 1) * base ≤ a * base = mul-le (c + 1) base a base (omega arith) (omega arith) in
            greater (a * base + r) (c * base + s) (omega arith) ∙ ap (λ o. ordering_then o (nat_cmp r s)) (sym (greater a c gt))
        | inr ge ↦
            let e : a ≡ c = omega arith in
            ap (λ n. nat_cmp (n * base + r) (c * base + s)) e ∙ shifted (c * base) r s ∙ ap (λ o. ordering_then o (nat_cmp r s)) (sym (equal c)) ∙ ap (λ n. ordering_then (nat_cmp n c) (nat_cmp r s)) (sym e)
      ]
    ]

byte_is : (k n : ℕ) → byte_at k n ≡ n / 256 ^ k % 256
byte_is zero n = omega arith
byte_is (suc k) n = refl

high_first : (k m n : ℕ) (x y : List ℕ) → slice_cmp nat_cmp (bytes_high_first k m ++ x) (bytes_high_first k n ++ y)
    ≡ ordering_then (nat_cmp (m % 256 ^ k) (n % 256 ^ k)) (slice_cmp nat_cmp x y)
high_first zero m n x y =
    let a : m % 256 ^ 0 ≡ 0 = omega arith in
    let b : n % 256 ^ 0 ≡ 0 = omega arith in
    rw (a, b) refl
high_first (suc k) m n x y =
    let base = 256 ^ k in
    let some : 0 < base = one-le-pow k 256 (lit≤ tt) in
    let C = slice_cmp nat_cmp x y in
    let whole : (n : ℕ) → n % 256 ^ suc k ≡ byte_at k n * 256 ^ k + n % 256 ^ k = λ n. ap (λ b. n % b) (pow-suc 256 k ∙ mul_comm (256 ^ k) 256) ∙ mod-mul n {m = 256} {c = 256 ^ k} (lit< tt) some ∙ ap (λ b. b * 256 ^ k + n % 256 ^ k) (sym (byte_is k n)) in
    ap (λ o. ordering_then (nat_cmp (byte_at k m) (byte_at k n)) o) (high_first k m n x y)
    ∙ sym (then_assoc (nat_cmp (byte_at k m) (byte_at k n)) (nat_cmp (m % base) (n % base)) C)
    ∙ ap (λ o. ordering_then o C) (sym (digits base (byte_at k m) (m % base) (byte_at k n) (n % base) (mod_below m base some) (mod_below n base some)))
    ∙ ap (λ (v : ℕ). ordering_then (nat_cmp v (byte_at k n * base + n % base)) C) (sym (whole m))
    ∙ ap (λ (v : ℕ). ordering_then (nat_cmp (m % 256 ^ suc k) v) C) (sym (whole n))

-- two numbers of as many bytes
pub numbers : (k m n : ℕ) (x y : List ℕ) → m < 256 ^ k → n < 256 ^ k → slice_cmp nat_cmp (bytes_high_first k m ++ x) (bytes_high_first k n ++ y)
    ≡ ordering_then (nat_cmp m n) (slice_cmp nat_cmp x y)
numbers k m n x y hm hn =
    high_first k m n x y
    ∙ ap (λ (v : ℕ). ordering_then (nat_cmp v (n % 256 ^ k)) (slice_cmp nat_cmp x y)) (mod-eq_of_lt hm)
    ∙ ap (λ (v : ℕ). ordering_then (nat_cmp m v) (slice_cmp nat_cmp x y)) (mod-eq_of_lt hn)

-- ---- tests of two numbers

pub number_le : (m n : ℕ) → m ≤ n → is_le (nat_cmp m n) ≡ true
number_le m n h = elim (cases_lt m n) [
  | inl lt ↦ ap is_le (less m n lt)
  | inr ge ↦ let e : m ≡ n = omega arith in ap is_le (ap (λ k. nat_cmp k n) e ∙ equal n)
]

pub less_number : (m n : ℕ) → m < n → is_lt (nat_cmp m n) ≡ true
less_number m n l = grind (arith, nat_tests)

pub same_number : (m n : ℕ) → is_eq (nat_cmp m n) ≡ true → m ≡ n
same_number m n e = grind (arith, nat_tests)

pub eq_turned : (m n : ℕ) → is_eq (nat_cmp m n) ≡ nat_eq n m
eq_turned m n = grind (arith, nat_tests)

pub differs_turned : (m n : ℕ) → nat_eq m n ≡ false → nat_eq n m ≡ false
differs_turned m n h = grind (arith, nat_tests)

pub not_less : (m n : ℕ) → nat_lt m n ≡ false → n ≤ m
not_less m n h = grind (arith, nat_tests)

pub then_equal : (r : Ordering) → ordering_then r Equal ≡ r
then_equal Less = refl
then_equal Equal = refl
then_equal Greater = refl
