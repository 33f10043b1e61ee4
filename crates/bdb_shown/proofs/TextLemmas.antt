-- Texts at the front of bytes, and what is written of them.
use Rattle.std.proofs.Common.{◌≡◌, ◌∙◌, ℕ, zero, suc, ◌≤◌, true, false, not, ◌&&◌, nat_eq, List, [], ◌∷◌, ◌++◌, length, take, drop, refl, sym, ap, subst, append_assoc, append-nil, arith}
use Rattle.std.specs.List.{flat_map, list_all}
use Rattle.std.proofs.lemmas.Bool.{and_parts, false≢true, eq-eqb, not-true, cond-false}
use Rattle.std.proofs.lemmas.Grind.{flat_map-append}
use Rattle.bdb_base.specs.Texts.{quoted_byte}
use Rattle.bdb_key.specs.Reading.{HasNoEnd, SplitsAtZero}
use Rattle.bdb_shown.specs.Rows.{stands_alone}

-- where bytes begin with a 0, the text that ends there is empty
pub text_ends : (b : ℕ) (bytes others left more : List ℕ) → bytes ≡ b ∷ others → b ≡ 0 → SplitsAtZero bytes left more → (left ≡ []) × (others ≡ more)
text_ends b bytes others [] more is nul h = let e : bytes ≡ 0 ∷ more = h.split in (refl, cc)
text_ends b bytes others (c ∷ left) more is nul h =
    let e : bytes ≡ c ∷ (left ++ 0 ∷ more) = h.split in
    let z : c ≡ 0 = cc in
    absurd (false≢true (subst (λ n. HasNoEnd (n ∷ left)) z h.none))

-- the text of bytes that begin with another byte begins with it
pub text_goes_on : (b : ℕ) (others left more : List ℕ) → nat_eq b 0 ≡ false → SplitsAtZero (b ∷ others) left more → (after : List ℕ) × (left ≡ b ∷ after) × SplitsAtZero others after more
text_goes_on b others [] more some h =
    let e : b ∷ others ≡ 0 ∷ more = h.split in
    let z : b ≡ 0 = cc in
    absurd (false≢true (sym some ∙ eq-eqb b 0 z))
text_goes_on b others (c ∷ left) more some h =
    let e : b ∷ others ≡ c ∷ (left ++ 0 ∷ more) = h.split in
    let z : c ≡ b = cc in
    let f : others ≡ left ++ 0 ∷ more = cc in
    (left, ap (λ n. n ∷ left) z, record { none = (and_parts (not (nat_eq c 0)) (list_all (λ n. not (nat_eq n 0)) left) h.none).1; split = f })

-- no bytes have no text
pub no_text : (left more : List ℕ) → SplitsAtZero [] left more → ⊥
no_text [] more h = let e : [] ≡ 0 ∷ more = h.split in cc
no_text (c ∷ left) more h = let e : [] ≡ c ∷ (left ++ 0 ∷ more) = h.split in cc

-- the text of bytes that begin with a run begins with it
pub text_runs : (n : ℕ) (bytes left more : List ℕ) → n ≤ length bytes → list_all stands_alone (take n bytes) ≡ true → SplitsAtZero bytes left more
    → (after : List ℕ) × (left ≡ take n bytes ++ after) × SplitsAtZero (drop n bytes) after more
text_runs zero bytes left more within run h = (left, refl, h)
text_runs (suc n) [] left more within run h = absurd (omega arith)
text_runs (suc n) (b ∷ bytes) left more within run h =
    let both = and_parts (stands_alone b) (list_all stands_alone (take n bytes)) run in
    let some = not-true (nat_eq b 0) (and_parts (not (nat_eq b 0)) (not (nat_eq b 39)) both.0).0 in
    let one = text_goes_on b bytes left more some h in
    let rest = text_runs n bytes one.0 more (omega arith) both.1 one.2 in
    (rest.0, one.1 ∙ ap (λ (l : List ℕ). b ∷ l) rest.1, rest.2)

-- a byte that stands alone is written as it is, and so is a run
pub byte_written : (b : ℕ) → nat_eq b 39 ≡ false → quoted_byte b ≡ b ∷ []
byte_written b h = cond-false (nat_eq b 39) (39 ∷ 39 ∷ []) (b ∷ []) h

pub run_written : (bytes : List ℕ) → list_all stands_alone bytes ≡ true → flat_map quoted_byte bytes ≡ bytes
run_written [] h = refl
run_written (b ∷ bytes) h =
    let both = and_parts (stands_alone b) (list_all stands_alone bytes) h in
    let other = not-true (nat_eq b 39) (and_parts (not (nat_eq b 0)) (not (nat_eq b 39)) both.0).1 in
    ap (λ (l : List ℕ). l ++ flat_map quoted_byte bytes) (byte_written b other) ∙ ap (λ (l : List ℕ). b ∷ l) (run_written bytes both.1)

-- ---- what is left to write

-- what was written, with what is left of the text, is what is wanted
pub record IsLeft (rest out wanted more : List ℕ) : Type 0 where
  pub left : List ℕ
  pub ends : SplitsAtZero rest left more
  pub written : out ++ flat_map quoted_byte left ≡ wanted

-- where bytes begin with a 0, what was written is what is wanted
pub left_end : (b : ℕ) (rest others out wanted more : List ℕ) → rest ≡ b ∷ others → b ≡ 0 → IsLeft rest out wanted more → out ≡ wanted
left_end b rest others out wanted more is nul h =
    sym (append-nil out) ∙ ap (λ (l : List ℕ). out ++ flat_map quoted_byte l) (sym (text_ends b rest others h.left more is nul h.ends).0) ∙ h.written

-- and the bytes behind it are left
pub left_behind : (b : ℕ) (rest others out wanted more : List ℕ) → rest ≡ b ∷ others → b ≡ 0 → IsLeft rest out wanted more → others ≡ more
left_behind b rest others out wanted more is nul h = (text_ends b rest others h.left more is nul h.ends).1

pub left_none : (out wanted more : List ℕ) → IsLeft [] out wanted more → ⊥
left_none out wanted more h = no_text h.left more h.ends

-- one byte more, or a run of them
pub left_byte : (b : ℕ) (others out text wanted more : List ℕ) → nat_eq b 0 ≡ false → quoted_byte b ≡ text → IsLeft (b ∷ others) out wanted more → IsLeft others (out ++ text) wanted more
left_byte b others out text wanted more some quote h =
    let e = text_goes_on b others h.left more some h.ends in
    record {
      left = e.0;
      ends = e.2;
      written = append_assoc out text (flat_map quoted_byte e.0) ∙ ap (λ (l : List ℕ). out ++ (l ++ flat_map quoted_byte e.0)) (sym quote)
          ∙ ap (λ (l : List ℕ). out ++ flat_map quoted_byte l) (sym e.1) ∙ h.written;
    }

pub left_run : (n : ℕ) (bytes out wanted more : List ℕ) → n ≤ length bytes → list_all stands_alone (take n bytes) ≡ true → IsLeft bytes out wanted more
    → IsLeft (drop n bytes) (out ++ take n bytes) wanted more
left_run n bytes out wanted more within run h =
    let e = text_runs n bytes h.left more within run h.ends in
    record {
      left = e.0;
      ends = e.2;
      written = append_assoc out (take n bytes) (flat_map quoted_byte e.0)
          ∙ ap (λ (l : List ℕ). out ++ (l ++ flat_map quoted_byte e.0)) (sym (run_written (take n bytes) run))
          ∙ ap (λ (l : List ℕ). out ++ l) (sym (flat_map-append quoted_byte (take n bytes) e.0))
          ∙ ap (λ (l : List ℕ). out ++ flat_map quoted_byte l) (sym e.1) ∙ h.written;
    }

-- the first byte stands alone, and so do the first ones behind it
pub run_more : (b : ℕ) (n : ℕ) (others : List ℕ) → nat_eq b 0 ≡ false → nat_eq b 39 ≡ false → list_all stands_alone (take n others) ≡ true → list_all stands_alone (take (suc n) (b ∷ others)) ≡ true
run_more b n others some other run =
    ap (λ t. (not t && not (nat_eq b 39)) && list_all stands_alone (take n others)) some ∙ ap (λ t. not t && list_all stands_alone (take n others)) other ∙ run
