-- Lemmas on the greatest head of the places that begin with some bytes.
use Rattle.std.proofs.Common.{◌≡◌, ℕ, zero, suc, ◌<◌, ◌≤◌, ◌^◌, ◌/◌, Bool, true, false, List, [], ◌∷◌, ◌++◌, length, take, drop, Ordering, Less, Equal, Greater, refl, sym, ap, ◌∙◌, subst, arith, lit<, drop-drop, append-nil, inl, inr}
use Rattle.std.specs.Prelude.{nat_eq, ◌&&◌, IsTrue}
use Rattle.std.specs.Ordering.{nat_cmp, ordering_then, ordering_reverse, is_le, is_lt}
use Rattle.std.specs.List.{AllByRecursion}
use Rattle.std.specs.Int.{byte_at, bytes_high_first, to_be_bytes, w64}
use Rattle.std.specs.FinMap.{nat_cmp-IsAntisymmetric}
use Rattle.std.proofs.lemmas.Nat.{mod_below}
use Rattle.std.proofs.lemmas.Cmp.{nat_cmp_total, tied_itself}
use Rattle.std.proofs.lemmas.Bool.{cases_lt, eqb-true, false_from_ne_true}
use mathlib.Core.Bool.{true≢false}
use Rattle.bdb_base.specs.Segments.{is_prefix}
use Rattle.bdb_keep.specs.Tables.{bytes_cmp}
use Rattle.bdb_memory.specs.Heads.{padded, bytes_of, key_of, IsHeadOf, IsHeadOfPlace, numbers_cmp, heads_cmp}
use Rattle.bdb_memory.specs.Openings.{filled, IsLastHead}
use Rattle.bdb_memory.specs.declared.head.Head.{Head}
use Rattle.bdb_base.proofs.Numbers.{less, equal, number_le}
use Rattle.bdb_memory.proofs.HeadsLemmas.{four, plus}
use Rattle.bdb_keep.proofs.OrderLemmas.{nat_same}

-- ---- a key that isn't below some bytes begins so where its front isn't above theirs, filled up

-- a byte is at most 255
most : (b : ℕ) (o : Ordering) → b < 256 → is_le o ≡ true → is_le (ordering_then (nat_cmp b 255) o) ≡ true
most b o h k = elim (cases_lt b 255) [
  | inl lt ↦ ap (λ r. is_le (ordering_then r o)) (less b 255 lt)
  | inr ge ↦ let e : b ≡ 255 = omega arith in ap (λ r. is_le (ordering_then r o)) (ap (λ n. nat_cmp n 255) e ∙ equal 255) ∙ k
]

full : (n : ℕ) (x : List ℕ) → AllByRecursion (λ b. b < 256) (padded n x) → is_le (bytes_cmp (padded n x) (filled n [])) ≡ true
full zero x a = refl
full (suc n) [] a = most 0 (bytes_cmp (padded n []) (filled n [])) a.0 (full n [] a.1)
full (suc n) (b ∷ x) a = most b (bytes_cmp (padded n x) (filled n [])) a.0 (full n x a.1)

less_apart : (a b : ℕ) → nat_cmp a b ≡ Less → nat_eq a b ≡ false
less_apart a b e = false_from_ne_true (nat_eq a b) (λ t. true≢false (sym (ap is_lt e) ∙ ap is_lt (ap (λ n. nat_cmp n b) (eqb-true a b t) ∙ tied_itself nat_cmp_total b)))

-- one byte, or a table, in front
step : (a b : ℕ) (o s : Ordering) (u v : Bool) → is_le (ordering_then (nat_cmp a b) o) ≡ true → (is_le o ≡ true → u ≡ (is_le s && v)) → (nat_eq a b && u) ≡ (is_le (ordering_then (nat_cmp b a) s) && v)
step a b o s u v le more = there (nat_cmp a b) refl le
  where
    there : (r : Ordering) → nat_cmp a b ≡ r → is_le (ordering_then r o) ≡ true → (nat_eq a b && u) ≡ (is_le (ordering_then (nat_cmp b a) s) && v)
    there Less e l = ap (λ c. c && u) (less_apart a b e) ∙ sym (ap (λ r. is_le (ordering_then r s) && v) (nat_cmp_total.antisymm b a ∙ ap ordering_reverse e))
    there Equal e l =
        ap (λ c. c && u) (nat_same a b (nat_cmp-IsAntisymmetric a b e)) ∙ more l ∙ sym (ap (λ r. is_le (ordering_then r s) && v) (nat_cmp_total.antisymm b a ∙ ap ordering_reverse e))
    there Greater e l = absurd (true≢false (sym l))

fronts : (n : ℕ) (p x : List ℕ) → AllByRecursion (λ b. b < 256) (padded n x) → is_le (bytes_cmp p x) ≡ true
    → is_prefix p x ≡ (is_le (bytes_cmp (padded n x) (filled n p)) && is_prefix (drop n p) (drop n x))
fronts zero [] [] a le = refl
fronts zero [] (b ∷ x) a le = refl
fronts zero (c ∷ p) [] a le = refl
fronts zero (c ∷ p) (b ∷ x) a le = refl
fronts (suc n) [] x a le = sym (ap (λ c. c && true) (full (suc n) x a))
fronts (suc n) (c ∷ p) [] a le = absurd (true≢false (sym le))
fronts (suc n) (c ∷ p) (b ∷ x) a le =
    step c b (bytes_cmp p x) (bytes_cmp (padded n x) (filled n p)) (is_prefix p x) (is_prefix (drop n p) (drop n x)) le (fronts n p x a.1)

-- ---- the same by heads

small : (k n : ℕ) → byte_at k n < 256
small zero n = mod_below n 256 (lit< tt)
small (suc k) n = mod_below (n / 256 ^ suc k) 256 (lit< tt)

all_small : (k n : ℕ) (rest : List ℕ) → AllByRecursion (λ b. b < 256) rest → AllByRecursion (λ b. b < 256) (bytes_high_first k n ++ rest)
all_small zero n rest h = h
all_small (suc k) n rest h = (small k n, all_small k n rest h)

bytes_small : (h : Head) → AllByRecursion (λ b. b < 256) (bytes_of h)
bytes_small h =
    let fourth = to_be_bytes w64 h.fourth ++ [] in
    let third = to_be_bytes w64 h.third ++ fourth in
    all_small 8 h.first (to_be_bytes w64 h.second ++ third) (all_small 8 h.second third (all_small 8 h.third fourth (all_small 8 h.fourth [] tt)))

last_le : (f s u w n : Ordering) → is_le n ≡ true
    → is_le (ordering_then f (ordering_then s (ordering_then u w))) ≡ is_le (ordering_then f (ordering_then s (ordering_then u (ordering_then w n))))
last_le Less s u w n h = refl
last_le Greater s u w n h = refl
last_le Equal Less u w n h = refl
last_le Equal Greater u w n h = refl
last_le Equal Equal Less w n h = refl
last_le Equal Equal Greater w n h = refl
last_le Equal Equal Equal Less n h = refl
last_le Equal Equal Equal Greater n h = refl
last_le Equal Equal Equal Equal n h = sym h

taken : (n : ℕ) (x : List ℕ) → length (take n x) ≤ n
taken zero [] = omega arith
taken zero (b ∷ x) = omega arith
taken (suc n) [] = omega arith
taken (suc n) (b ∷ x) = let more = taken n x in omega (arith, more)

by_last : (p x : List ℕ) (h l : Head) → IsHeadOf x h (drop 32 x) → IsLastHead l p → is_le (bytes_cmp p x) ≡ true → is_prefix p x ≡ (is_le (numbers_cmp h l) && is_prefix (drop 32 p) (drop 32 x))
by_last p x h l i k le =
    let few = taken 32 x in
    let count : is_le (nat_cmp h.count l.count) ≡ true = number_le h.count l.count (omega (arith, few, i.count, k.count)) in
    fronts 32 p x (subst (AllByRecursion (λ b. b < 256)) (sym i.bytes) (bytes_small h)) le
    ∙ ap (λ c. c && is_prefix (drop 32 p) (drop 32 x))
    (ap (λ m. is_le (bytes_cmp m (filled 32 p))) i.bytes ∙ ap (λ m. is_le (bytes_cmp (bytes_of h) m)) k.bytes
    ∙ ap is_le (four h.first h.second h.third h.fourth l.first l.second l.third l.fourth i.first_fits i.second_fits i.third_fits i.fourth_fits k.first_fits k.second_fits k.third_fits k.fourth_fits)
    ∙ last_le (nat_cmp h.first l.first) (nat_cmp h.second l.second) (nat_cmp h.third l.third) (nat_cmp h.fourth l.fourth) (nat_cmp h.count l.count) count)

by_place : (q p place : List ℕ) (h l : Head) → l.tab ∷ p ≡ q → IsLastHead l p → IsHeadOfPlace h place → is_le (bytes_cmp q place) ≡ true
    → is_prefix q place ≡ (is_le (heads_cmp h l) && is_prefix (drop 32 p) (drop 33 place))
by_place q p [] h l e k i le = absurd i
by_place q p (tab ∷ x) h l e k i le =
    ap (λ r. is_prefix r (tab ∷ x)) (sym e)
    ∙ step l.tab tab (bytes_cmp p x) (numbers_cmp h l) (is_prefix p x) (is_prefix (drop 32 p) (drop 32 x)) (ap (λ r. is_le (bytes_cmp r (tab ∷ x))) e ∙ le) (by_last p x h l i.1 k)
    ∙ ap (λ t. is_le (ordering_then (nat_cmp t l.tab) (numbers_cmp h l)) && is_prefix (drop 32 p) (drop 32 x)) (sym i.0)

-- where the head isn't above the greatest, it is left to what is behind, and else the place doesn't begin so
pub told_behind : (q p place b : List ℕ) (h l : Head) (o : Bool) → l.tab ∷ p ≡ q → IsLastHead l p → o ≡ is_le (heads_cmp h l) → o ≡ true → b ≡ drop 32 p → IsHeadOfPlace h place → IsTrue (is_le (bytes_cmp q place))
    → is_prefix b (drop 33 place) ≡ is_prefix q place
told_behind q p place b h l o e k d t f i le =
    ap (λ (c : List ℕ). is_prefix c (drop 33 place)) f ∙ sym (by_place q p place h l e k i le ∙ ap (λ c. c && is_prefix (drop 32 p) (drop 33 place)) (sym d ∙ t))

pub told_none : (q p place : List ℕ) (h l : Head) (o : Bool) → l.tab ∷ p ≡ q → IsLastHead l p → o ≡ is_le (heads_cmp h l) → o ≡ false → IsHeadOfPlace h place → IsTrue (is_le (bytes_cmp q place))
    → false ≡ is_prefix q place
told_none q p place h l o e k d t i le = sym (by_place q p place h l e k i le ∙ ap (λ c. c && is_prefix (drop 32 p) (drop 33 place)) (sym d ∙ t))

-- what is behind the head that is inside a place
pub rest_within : (place : List ℕ) (h : Head) (rest : List ℕ) → h.tab ∷ key_of h rest ≡ place → IsHeadOf (key_of h rest) h rest → rest ≡ drop 33 place
rest_within place h rest e i = subst (λ q. rest ≡ drop 33 q) e i.behind

-- ---- the greatest head by its four words

filled_more : (m n : ℕ) (key : List ℕ) → filled (plus m n) key ≡ filled m key ++ filled n (drop m key)
filled_more zero n [] = refl
filled_more zero n (b ∷ key) = refl
filled_more (suc m) n [] = ap (λ l. 255 ∷ l) (filled_more m n [] ∙ ap (λ l. filled m [] ++ filled n l) (drop_none m))
  where
    drop_none : (m : ℕ) → drop {A = ℕ} m [] ≡ []
    drop_none zero = refl
    drop_none (suc m) = refl
filled_more (suc m) n (b ∷ key) = ap (λ l. b ∷ l) (filled_more m n key)

pub last_of_words : (p : List ℕ) (h : Head) → h.count ≡ 32 → filled 8 p ≡ to_be_bytes w64 h.first → filled 8 (drop 8 p) ≡ to_be_bytes w64 h.second → filled 8 (drop 16 p) ≡ to_be_bytes w64 h.third → filled 8 (drop 24 p) ≡ to_be_bytes w64 h.fourth
    → h.first < 2 ^ 64 → h.second < 2 ^ 64 → h.third < 2 ^ 64 → h.fourth < 2 ^ 64 → IsLastHead h p
last_of_words p h n a b c d i j k l = record {
  bytes = filled_more 8 24 p ∙ ap (λ m. m ++ filled 24 (drop 8 p)) a
      ∙ ap (λ m. to_be_bytes w64 h.first ++ m)
      (filled_more 8 16 (drop 8 p) ∙ ap (λ m. m ++ filled 16 (drop 8 (drop 8 p))) b
      ∙ ap (λ m. to_be_bytes w64 h.second ++ m)
      (ap (filled 16) (drop-drop 8 8 p) ∙ filled_more 8 8 (drop 16 p) ∙ ap (λ m. m ++ filled 8 (drop 8 (drop 16 p))) c
      ∙ ap (λ m. to_be_bytes w64 h.third ++ m) (ap (filled 8) (drop-drop 8 16 p) ∙ d ∙ sym (append-nil (to_be_bytes w64 h.fourth)))));
  count = n;
  first_fits = i;
  second_fits = j;
  third_fits = k;
  fourth_fits = l;
}
