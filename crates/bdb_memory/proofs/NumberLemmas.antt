-- Lemmas on the numbers in four bytes of keys.
use Rattle.std.proofs.Common.{◌≡◌, ℕ, arith, ◌+◌, ◌-◌, ◌<◌, ◌≤◌, ◌^◌, suc, zero, Bool, true, false, List, [], ◌∷◌, ◌++◌, length, take, drop, get_or, refl, sym, ap, ◌∙◌, subst}
use Rattle.std.specs.Prelude.{nat_eq}
use Rattle.std.specs.Int.{w32, to_be_bytes, from_be_bytes}
use Rattle.std.proofs.lemmas.Nat.{from_be_bytes-to_be_bytes_4}
use Rattle.std.proofs.lemmas.List.{length-append, take-append-drop, length-take, length-take-le, length-drop, get_or-take, get_or-drop}
use Rattle.std.proofs.Math.Seq.{take-length}
use mathlib.Core.Bool.{true≢false}
use Rattle.std.proofs.lemmas.Bool.{eqb-true, eq-eqb}
use Rattle.bdb_base.specs.Same.{same_text}
use Rattle.bdb_base.specs.SameLemmas.{same_text-Decides}
use Rattle.bdb_memory.specs.Heads.{IsHeadOf, padded, bytes_of, key_of}
use Rattle.bdb_keep.specs.Marked.{four_bytes, has_word}
use Rattle.bdb_memory.specs.declared.head.Head.{Head}
use Rattle.bdb_keep.specs.declared.keeper.KeyEnd.{KeyEnd}
use Rattle.bdb_keep.specs.declared.keeper.KeyEnd.TheVariants.{First, Last}

-- ---- the bytes of a key, in its head and behind it
whole : (n : ℕ) (key : List ℕ) → key ≡ take (length key) (padded n key ++ drop n key)
whole zero key = sym (take-length key)
whole (suc n) [] = refl
whole (suc n) (b ∷ key) = ap (λ x. b ∷ x) (whole n key)

key_length : (key : List ℕ) (h : Head) (rest : List ℕ) → IsHeadOf key h rest → h.count + length rest ≡ length key
key_length key h rest i =
    ap (λ n. n + length rest) i.count ∙ ap (λ r. length (take 32 key) + length r) i.behind ∙ sym (length-append (take 32 key) (drop 32 key)) ∙ ap length (take-append-drop 32 key)

-- a key is the beginning of the bytes of its head with the rest behind them
key_whole : (key : List ℕ) (h : Head) (rest : List ℕ) → IsHeadOf key h rest → key ≡ take (length key) (bytes_of h ++ rest)
key_whole key h rest i = whole 32 key ∙ ap (λ x. take (length key) (x ++ drop 32 key)) i.bytes ∙ ap (λ r. take (length key) (bytes_of h ++ r)) (sym i.behind)

byte_in_key : (key xs : List ℕ) (i : ℕ) → key ≡ take (length key) xs → i < length key → get_or key i 0 ≡ get_or xs i 0
byte_in_key key xs i e h = ap (λ k. get_or k i 0) e ∙ get_or-take (length key) xs i 0 h

-- ---- four bytes
-- four bytes of a list from an index on
abbrev pub four_at : List ℕ → ℕ → List ℕ
four_at xs at = get_or xs at 0 ∷ get_or xs (at + 1) 0 ∷ get_or xs (at + 2) 0 ∷ get_or xs (at + 3) 0 ∷ []

four_all : (ys : List ℕ) → length ys ≡ 4 → ys ≡ get_or ys 0 0 ∷ get_or ys 1 0 ∷ get_or ys 2 0 ∷ get_or ys 3 0 ∷ []
four_all [] e = absurd (omega arith)
four_all (a ∷ []) e = absurd (omega arith)
four_all (a ∷ b ∷ []) e = absurd (omega arith)
four_all (a ∷ b ∷ c ∷ []) e = absurd (omega arith)
four_all (a ∷ b ∷ c ∷ d ∷ []) e = refl
four_all (a ∷ b ∷ c ∷ d ∷ f ∷ ys) e = absurd (omega arith)

-- four bytes that are those of a list from an index on
four_same : (ys xs : List ℕ) (at : ℕ) → length ys ≡ 4 → ((i : ℕ) → i < 4 → get_or ys i 0 ≡ get_or xs (at + i) 0) → ys ≡ four_at xs at
four_same ys xs at e f =
    let zeroth : at + 0 ≡ at = omega arith in
    four_all ys e ∙ ap (λ x. x ∷ get_or ys 1 0 ∷ get_or ys 2 0 ∷ get_or ys 3 0 ∷ []) (f 0 (omega arith) ∙ ap (λ k. get_or xs k 0) zeroth)
    ∙ ap (λ x. get_or xs at 0 ∷ x ∷ get_or ys 2 0 ∷ get_or ys 3 0 ∷ []) (f 1 (omega arith))
    ∙ ap (λ x. get_or xs at 0 ∷ get_or xs (at + 1) 0 ∷ x ∷ get_or ys 3 0 ∷ []) (f 2 (omega arith))
    ∙ ap (λ x. get_or xs at 0 ∷ get_or xs (at + 1) 0 ∷ get_or xs (at + 2) 0 ∷ x ∷ []) (f 3 (omega arith))

first_four : (key xs : List ℕ) → key ≡ take (length key) xs → 4 ≤ length key → take 4 key ≡ four_at xs 0
first_four key xs e h = four_same (take 4 key) xs 0 (length-take-le 4 key h) each
  where
    each : (i : ℕ) → i < 4 → get_or (take 4 key) i 0 ≡ get_or xs (0 + i) 0
    each i l = let same : i ≡ 0 + i = omega arith in get_or-take 4 key i 0 l ∙ byte_in_key key xs i e (omega arith) ∙ ap (λ k. get_or xs k 0) same

last_four : (key xs : List ℕ) → key ≡ take (length key) xs → 4 ≤ length key → drop (length key - 4) key ≡ four_at xs (length key - 4)
last_four key xs e h = four_same (drop (length key - 4) key) xs (length key - 4) size each
  where
    back : (n : ℕ) → 4 ≤ n → n - (n - 4) ≡ 4
    back n g = omega arith

    size : length (drop (length key - 4) key) ≡ 4
    size = length-drop (length key - 4) key ∙ back (length key) h

    each : (i : ℕ) → i < 4 → get_or (drop (length key - 4) key) i 0 ≡ get_or xs (length key - 4 + i) 0
    each i l = get_or-drop (length key - 4) key i 0 ∙ byte_in_key key xs (length key - 4 + i) e (omega arith)

-- ---- numbers
word_same : (end : KeyEnd) (key : List ℕ) (found number : ℕ) → four_bytes end key ≡ to_be_bytes w32 found → found < 2 ^ 32 → number < 2 ^ 32 → has_word end number key ≡ nat_eq number found
word_same end key found number e f g = there (same_text (four_bytes end key) (to_be_bytes w32 number)) (nat_eq number found) refl refl
  where
    there : (a b : Bool) → same_text (four_bytes end key) (to_be_bytes w32 number) ≡ a → nat_eq number found ≡ b → a ≡ b
    there true true p q = refl
    there false false p q = refl
    there true false p q =
        let bytes : to_be_bytes w32 found ≡ to_be_bytes w32 number = sym e ∙ (same_text-Decides (four_bytes end key) (to_be_bytes w32 number)).0 p in
        let same : found ≡ number = sym (from_be_bytes-to_be_bytes_4 found f) ∙ ap (from_be_bytes w32) bytes ∙ from_be_bytes-to_be_bytes_4 number g in
        absurd (true≢false (sym (eq-eqb number found (sym same)) ∙ q))
    there false true p q =
        absurd (true≢false (sym ((same_text-Decides (four_bytes end key) (to_be_bytes w32 number)).1 (e ∙ ap (to_be_bytes w32) (sym (eqb-true number found q)))) ∙ p))

four_long : (number : ℕ) → length (to_be_bytes w32 number) ≡ 4
four_long number = refl

few : (end : KeyEnd) (key : List ℕ) → length key < 4 → length (four_bytes end key) < 4
few First key h = let e = length-take 4 key in omega arith
few Last key h = let e = length-drop (length key - 4) key in omega arith

-- a key of fewer bytes has no number
none_in : (end : KeyEnd) (key : List ℕ) (number : ℕ) → length key < 4 → has_word end number key ≡ false
none_in end key number h = there (same_text (four_bytes end key) (to_be_bytes w32 number)) refl
  where
    there : (b : Bool) → same_text (four_bytes end key) (to_be_bytes w32 number) ≡ b → b ≡ false
    there true p = absurd (apart (length (four_bytes end key)) (few end key h) (ap length ((same_text-Decides (four_bytes end key) (to_be_bytes w32 number)).0 p) ∙ four_long number))
      where
        apart : (n : ℕ) → n < 4 → n ≡ 4 → ⊥
        apart n a b = omega arith
    there false p = refl

-- ---- the number that was found in a key
pub number_first : (place bytes : List ℕ) (h : Head) (rest : List ℕ) (found number : ℕ) → h.tab ∷ key_of h rest ≡ place → IsHeadOf (key_of h rest) h rest → bytes ≡ bytes_of h → 4 ≤ h.count + length rest
    → to_be_bytes w32 found ≡ four_at (bytes ++ rest) 0 → found < 2 ^ 32 → number < 2 ^ 32 → has_word First number (drop 1 place) ≡ nat_eq number found
number_first place bytes h rest found number p i b l e f g =
    let size = key_length (key_of h rest) h rest i in
    let is : take 4 (key_of h rest) ≡ to_be_bytes w32 found =
    first_four (key_of h rest) (bytes_of h ++ rest) (key_whole (key_of h rest) h rest i) (subst (λ n. 4 ≤ n) size l) ∙ ap (λ x. four_at (x ++ rest) 0) (sym b) ∙ sym e in
    ap (λ q. has_word First number (drop 1 q)) (sym p) ∙ word_same First (key_of h rest) found number is f g

pub number_last : (place bytes : List ℕ) (h : Head) (rest : List ℕ) (count found number : ℕ) → h.tab ∷ key_of h rest ≡ place → IsHeadOf (key_of h rest) h rest → bytes ≡ bytes_of h → count ≡ h.count + length rest → 4 ≤ count
    → to_be_bytes w32 found ≡ four_at (bytes ++ rest) (count - 4) → found < 2 ^ 32 → number < 2 ^ 32 → has_word Last number (drop 1 place) ≡ nat_eq number found
number_last place bytes h rest count found number p i b c l e f g =
    let size : count ≡ length (key_of h rest) = c ∙ key_length (key_of h rest) h rest i in
    let is : drop (length (key_of h rest) - 4) (key_of h rest) ≡ to_be_bytes w32 found =
    last_four (key_of h rest) (bytes_of h ++ rest) (key_whole (key_of h rest) h rest i) (subst (λ n. 4 ≤ n) size l) ∙ ap (λ x. four_at (x ++ rest) (length (key_of h rest) - 4)) (sym b) ∙ ap (λ n. four_at (bytes ++ rest) (n - 4)) (sym size) ∙ sym e in
    ap (λ q. has_word Last number (drop 1 q)) (sym p) ∙ word_same Last (key_of h rest) found number is f g

pub number_none : (end : KeyEnd) (place : List ℕ) (h : Head) (rest : List ℕ) (count number : ℕ) → h.tab ∷ key_of h rest ≡ place → IsHeadOf (key_of h rest) h rest → count ≡ h.count + length rest → count < 4
    → has_word end number (drop 1 place) ≡ false
number_none end place h rest count number p i c l =
    ap (λ q. has_word end number (drop 1 q)) (sym p) ∙ none_in end (key_of h rest) number (subst (λ n. n < 4) (c ∙ key_length (key_of h rest) h rest i) l)
