-- Lemmas on places as numbers.
use Rattle.std.proofs.Common.{◌≡◌, ℕ, Option, zero, suc, ◌<◌, ◌^◌, List, [], ◌∷◌, ◌++◌, length, take, drop, Ordering, Less, Equal, Greater, true, refl, sym, ap, ◌∙◌, subst, arith, append-nil, append_assoc, take_all, length-take-le, inl, inr}
use Rattle.std.specs.Ordering.{nat_cmp, ordering_then, ordering_reverse, is_le}
use Rattle.std.specs.Int.{w64, to_be_bytes}
use Rattle.std.proofs.lemmas.Cmp.{nat_list_cmp_total, tied_itself}
use Rattle.std.specs.Prelude.{min}
use Rattle.std.proofs.lemmas.Bool.{cases_lt}
use Rattle.std.proofs.lemmas.Map.Lookups.{exact_unsigned}
use Rattle.std.proofs.lemmas.Bool.Decides.{nat_tests}
use mathlib.Core.Bool.{true≢false}
use Rattle.bdb_keep.specs.Tables.{bytes_cmp}
use Rattle.bdb_memory.specs.Heads.{padded, bytes_of, key_of, IsHeadOf, IsHeadOfPlace, heads_cmp}
use Rattle.bdb_memory.specs.Tails.{table_in, count_in, third_in, fourth_in, head_in}
use Rattle.bdb_memory.specs.declared.head.Head.{Head}
use Rattle.bdb_memory.specs.declared.tail.Tail.{Tail}
use Rattle.bdb_base.proofs.Numbers.{less, greater, equal, then_assoc, numbers, then_equal}

stepped : (m n : ℕ) → nat_cmp (suc m) (suc n) ≡ nat_cmp m n
stepped m n = grind (arith, nat_tests)

then_less : (r : Ordering) → is_le r ≡ true → ordering_then r Less ≡ Less
then_less Less h = refl
then_less Equal h = refl
then_less Greater h = absurd (true≢false (sym h))

then_greater : (r : Ordering) → is_le r ≡ true → ordering_then (ordering_reverse r) Greater ≡ Greater
then_greater Less h = refl
then_greater Equal h = refl
then_greater Greater h = absurd (true≢false (sym h))

-- zeros are not above anything
zeros_le : (n : ℕ) (key : List ℕ) → is_le (bytes_cmp (padded n []) (padded n key)) ≡ true
zeros_le zero key = refl
zeros_le (suc n) [] = ap (λ o. is_le (ordering_then o (bytes_cmp (padded n []) (padded n [])))) (equal 0) ∙ zeros_le n []
zeros_le (suc n) (b ∷ key) = there b (zeros_le n key)
  where
    there : (b : ℕ) → is_le (bytes_cmp (padded n []) (padded n key)) ≡ true → is_le (ordering_then (nat_cmp 0 b) (bytes_cmp (padded n []) (padded n key))) ≡ true
    there zero h = ap (λ o. is_le (ordering_then o (bytes_cmp (padded n []) (padded n key)))) (equal 0) ∙ h
    there (suc m) h = ap (λ o. is_le (ordering_then o (bytes_cmp (padded n []) (padded n key)))) (less 0 (suc m) (omega arith))

-- keys compare by their padded fronts, then by how many bytes these have, and then by what is behind
padded_cmp : (n : ℕ) (x y : List ℕ) → bytes_cmp x y
    ≡ ordering_then (bytes_cmp (padded n x) (padded n y)) (ordering_then (nat_cmp (length (take n x)) (length (take n y))) (bytes_cmp (drop n x) (drop n y)))
padded_cmp zero [] [] = refl
padded_cmp zero [] (b ∷ y) = refl
padded_cmp zero (a ∷ x) [] = refl
padded_cmp zero (a ∷ x) (b ∷ y) = refl
padded_cmp (suc n) [] [] = sym (ap (λ o. ordering_then o (ordering_then (nat_cmp 0 0) Equal)) (tied_itself nat_list_cmp_total (padded (suc n) [])))
padded_cmp (suc n) [] (b ∷ y) =
    let c = bytes_cmp (padded (suc n) []) (padded (suc n) (b ∷ y)) in
    sym (ap (λ o. ordering_then c (ordering_then o (bytes_cmp [] (drop n y)))) (less 0 (suc (length (take n y))) (omega arith)) ∙ then_less c (zeros_le (suc n) (b ∷ y)))
padded_cmp (suc n) (a ∷ x) [] =
    let c = bytes_cmp (padded (suc n) []) (padded (suc n) (a ∷ x)) in
    let d = bytes_cmp (padded (suc n) (a ∷ x)) (padded (suc n) []) in
    sym (ap (λ o. ordering_then d (ordering_then o (bytes_cmp (drop n x) []))) (greater (suc (length (take n x))) 0 (omega arith))
    ∙ ap (λ o. ordering_then o Greater) (nat_list_cmp_total.antisymm (padded (suc n) (a ∷ x)) (padded (suc n) []))
    ∙ then_greater c (zeros_le (suc n) (a ∷ x)))
padded_cmp (suc n) (a ∷ x) (b ∷ y) =
    let more = ordering_then (nat_cmp (length (take n x)) (length (take n y))) (bytes_cmp (drop n x) (drop n y)) in
    ap (λ o. ordering_then (nat_cmp a b) o) (padded_cmp n x y)
    ∙ sym (then_assoc (nat_cmp a b) (bytes_cmp (padded n x) (padded n y)) more)
    ∙ ap (λ o. ordering_then (ordering_then (nat_cmp a b) (bytes_cmp (padded n x) (padded n y))) (ordering_then o (bytes_cmp (drop n x) (drop n y)))) (sym (stepped (length (take n x)) (length (take n y))))

-- four numbers
pub four : (a b c d e f g h : ℕ) → a < 2 ^ 64 → b < 2 ^ 64 → c < 2 ^ 64 → d < 2 ^ 64 → e < 2 ^ 64 → f < 2 ^ 64 → g < 2 ^ 64 → h < 2 ^ 64
    → bytes_cmp (to_be_bytes w64 a ++ (to_be_bytes w64 b ++ (to_be_bytes w64 c ++ (to_be_bytes w64 d ++ [])))) (to_be_bytes w64 e ++ (to_be_bytes w64 f ++ (to_be_bytes w64 g ++ (to_be_bytes w64 h ++ []))))
    ≡ ordering_then (nat_cmp a e) (ordering_then (nat_cmp b f) (ordering_then (nat_cmp c g) (nat_cmp d h)))
four a b c d e f g h ha hb hc hd he hf hg hh =
    numbers 8 a e (to_be_bytes w64 b ++ (to_be_bytes w64 c ++ (to_be_bytes w64 d ++ []))) (to_be_bytes w64 f ++ (to_be_bytes w64 g ++ (to_be_bytes w64 h ++ []))) ha he
    ∙ ap (λ o. ordering_then (nat_cmp a e) o)
    (numbers 8 b f (to_be_bytes w64 c ++ (to_be_bytes w64 d ++ [])) (to_be_bytes w64 g ++ (to_be_bytes w64 h ++ [])) hb hf
    ∙ ap (λ o. ordering_then (nat_cmp b f) o)
    (numbers 8 c g (to_be_bytes w64 d ++ []) (to_be_bytes w64 h ++ []) hc hg
    ∙ ap (λ o. ordering_then (nat_cmp c g) o) (numbers 8 d h [] [] hd hh ∙ then_equal (nat_cmp d h))))

-- how the numbers of two heads compare, without their counts
abbrev words_cmp : Head → Head → Ordering
words_cmp a b = ordering_then (nat_cmp a.first b.first) (ordering_then (nat_cmp a.second b.second) (ordering_then (nat_cmp a.third b.third) (nat_cmp a.fourth b.fourth)))

regroup : (t f s u w n r : Ordering) → ordering_then t (ordering_then (ordering_then f (ordering_then s (ordering_then u w))) (ordering_then n r))
    ≡ ordering_then (ordering_then t (ordering_then f (ordering_then s (ordering_then u (ordering_then w n))))) r
regroup Less f s u w n r = refl
regroup Greater f s u w n r = refl
regroup Equal Less s u w n r = refl
regroup Equal Greater s u w n r = refl
regroup Equal Equal Less u w n r = refl
regroup Equal Equal Greater u w n r = refl
regroup Equal Equal Equal Less w n r = refl
regroup Equal Equal Equal Greater w n r = refl
regroup Equal Equal Equal Equal Less n r = refl
regroup Equal Equal Equal Equal Greater n r = refl
regroup Equal Equal Equal Equal Equal n r = refl

-- places compare by their heads, and then by what is behind
pub by_heads : (x y r s : List ℕ) (a b : Head) → IsHeadOf x a r → IsHeadOf y b s → bytes_cmp (a.tab ∷ x) (b.tab ∷ y) ≡ ordering_then (heads_cmp a b) (bytes_cmp r s)
by_heads x y r s a b h k =
    let front : bytes_cmp (padded 32 x) (padded 32 y) ≡ words_cmp a b =
    ap (λ l. bytes_cmp l (padded 32 y)) h.bytes ∙ ap (λ l. bytes_cmp (bytes_of a) l) k.bytes
    ∙ four a.first a.second a.third a.fourth b.first b.second b.third b.fourth h.first_fits h.second_fits h.third_fits h.fourth_fits k.first_fits k.second_fits k.third_fits k.fourth_fits in
    let counts : nat_cmp (length (take 32 x)) (length (take 32 y)) ≡ nat_cmp a.count b.count =
    ap (λ n. nat_cmp n (length (take 32 y))) (sym h.count) ∙ ap (λ n. nat_cmp a.count n) (sym k.count) in
    let behind : bytes_cmp (drop 32 x) (drop 32 y) ≡ bytes_cmp r s = ap (λ l. bytes_cmp l (drop 32 y)) (sym h.behind) ∙ ap (λ l. bytes_cmp r l) (sym k.behind) in
    ap (λ o. ordering_then (nat_cmp a.tab b.tab) o)
    (padded_cmp 32 x y
    ∙ ap (λ o. ordering_then o (ordering_then (nat_cmp (length (take 32 x)) (length (take 32 y))) (bytes_cmp (drop 32 x) (drop 32 y)))) front
    ∙ ap (λ o. ordering_then (words_cmp a b) (ordering_then o (bytes_cmp (drop 32 x) (drop 32 y)))) counts
    ∙ ap (λ o. ordering_then (words_cmp a b) (ordering_then (nat_cmp a.count b.count) o)) behind)
    ∙ regroup (nat_cmp a.tab b.tab) (nat_cmp a.first b.first) (nat_cmp a.second b.second) (nat_cmp a.third b.third) (nat_cmp a.fourth b.fourth) (nat_cmp a.count b.count) (bytes_cmp r s)

padded_back : (n : ℕ) (key : List ℕ) → take (length (take n key)) (padded n key) ++ drop n key ≡ key
padded_back zero [] = refl
padded_back zero (b ∷ key) = refl
padded_back (suc n) [] = refl
padded_back (suc n) (b ∷ key) = ap (λ l. b ∷ l) (padded_back n key)

-- the key of its head
pub key_back : (key rest : List ℕ) (h : Head) → IsHeadOf key h rest → key_of h rest ≡ key
key_back key rest h i =
    ap (λ n. take n (bytes_of h) ++ rest) i.count ∙ ap (λ l. take (length (take 32 key)) l ++ rest) (sym i.bytes) ∙ ap (λ l. take (length (take 32 key)) (padded 32 key) ++ l) i.behind ∙ padded_back 32 key

-- what is made of a key is a head of the key that it has
pub head_itself : (key rest : List ℕ) (h : Head) → IsHeadOf key h rest → IsHeadOf (key_of h rest) h rest
head_itself key rest h i = subst (λ k. IsHeadOf k h rest) (sym (key_back key rest h i)) i

-- a sum that computes at its first number
abbrev pub plus : ℕ → ℕ → ℕ
plus zero n = n
plus (suc m) n = suc (plus m n)

-- the head of a key by its four words
pub head_of_words : (key : List ℕ) (h : Head) → h.count ≡ length (take 32 key) → padded 32 key ≡ to_be_bytes w64 h.first ++ (to_be_bytes w64 h.second ++ (to_be_bytes w64 h.third ++ to_be_bytes w64 h.fourth))
    → h.first < 2 ^ 64 → h.second < 2 ^ 64 → h.third < 2 ^ 64 → h.fourth < 2 ^ 64 → IsHeadOf key h (drop 32 key)
head_of_words key h n b i j k l = record {
  bytes = b ∙ ap (λ m. to_be_bytes w64 h.first ++ (to_be_bytes w64 h.second ++ (to_be_bytes w64 h.third ++ m))) (sym (append-nil (to_be_bytes w64 h.fourth)));
  count = n;
  behind = refl;
  first_fits = i;
  second_fits = j;
  third_fits = k;
  fourth_fits = l;
}

-- numbers that differ decide, and those that don't leave it to what follows
pub apart : (m n : ℕ) (r x : Ordering) → (m ≡ n → ⊥) → r ≡ nat_cmp m n → r ≡ ordering_then (nat_cmp m n) x
apart m n r x d h = h ∙ there (nat_cmp m n) refl
  where
    there : (o : Ordering) → nat_cmp m n ≡ o → o ≡ ordering_then o x
    there Less e = refl
    there Equal e = absurd (d (exact_unsigned m n e))
    there Greater e = refl

pub alike : (m n : ℕ) (r x : Ordering) → m ≡ n → r ≡ x → r ≡ ordering_then (nat_cmp m n) x
alike m n r x e h = h ∙ ap (λ o. ordering_then o x) (sym (ap (λ k. nat_cmp k n) e ∙ equal n))

-- as many bytes as a key has, and at most 32
pub count_is : (key : List ℕ) (n : ℕ) → n ≡ min (length key) 32 → n ≡ length (take 32 key)
count_is key n h = elim (cases_lt (length key) 32) [
  | inl lt ↦ let e = ap length (take_all 32 key (omega arith)) in omega arith
  | inr le ↦ let e = length-take-le 32 key (omega arith) in omega arith
]

-- what writing bytes to a cleared key, and cutting, makes
pub written : (w y v a b : List ℕ) (m n : ℕ) → w ≡ [] → y ≡ w ++ a → a ≡ b → v ≡ take m y → m ≡ n → v ≡ take n b
written w y v a b m n d e f g h = g ∙ ap (λ k. take k y) h ∙ ap (take n) (e ∙ ap (λ l. l ++ a) d ∙ f)

-- how a place and one that is looked for compare, by what is inside them
pub compared : (p q : List ℕ) (a b : Head) (r s : List ℕ) (o : Ordering) → a.tab ∷ key_of a r ≡ p → b.tab ∷ key_of b s ≡ q → IsHeadOf (key_of a r) a r → IsHeadOf (key_of b s) b s
    → o ≡ ordering_then (heads_cmp a b) (bytes_cmp r s) → o ≡ bytes_cmp p q
compared p q a b r s o e f h k d = d ∙ sym (by_heads (key_of a r) (key_of b s) r s a b h k) ∙ ap (λ l. bytes_cmp l (b.tab ∷ key_of b s)) e ∙ ap (bytes_cmp p) f

-- heads that are not equal decide
pub decided : (r o : Ordering) (x : Ordering) → r ≡ o → (o ≡ Equal → ⊥) → o ≡ ordering_then r x
decided Less o x e d = sym e
decided Equal o x e d = absurd (d (sym e))
decided Greater o x e d = sym e

-- the head that is inside a place is its head
pub head_within : (p : List ℕ) (h : Head) (rest : List ℕ) → h.tab ∷ key_of h rest ≡ p → IsHeadOf (key_of h rest) h rest → IsHeadOfPlace h p
head_within p h rest e i = subst (IsHeadOfPlace h) e (refl, subst (IsHeadOf (key_of h rest) h) i.behind i)

-- how a place with a head and one that is looked for compare, where the heads tell
pub head_tells : (p q : List ℕ) (a b : Head) (s : List ℕ) (o : Ordering) → b.tab ∷ key_of b s ≡ q → IsHeadOf (key_of b s) b s → o ≡ heads_cmp a b → IsHeadOfPlace a p → (o ≡ Equal → ⊥) → o ≡ bytes_cmp p q
head_tells [] q a b s o e k d h n = absurd h
head_tells (tab ∷ key) q a b s o e k d h n =
    decided (heads_cmp a b) o (bytes_cmp (drop 32 key) s) (sym d) n
    ∙ sym (by_heads key (key_of b s) (drop 32 key) s a b h.1 k)
    ∙ ap (λ t. bytes_cmp (t ∷ key) (b.tab ∷ key_of b s)) h.0
    ∙ ap (bytes_cmp (tab ∷ key)) e

-- the same of an entry
pub entries_compared : (h b : Head) (r s : List ℕ) (w : Option (List ℕ)) (e : List ℕ × Option (List ℕ)) (q : List ℕ) (o : Ordering) → (h.tab ∷ key_of h r, w) ≡ e → IsHeadOf (key_of h r) h r → b.tab ∷ key_of b s ≡ q → IsHeadOf (key_of b s) b s
    → o ≡ ordering_then (heads_cmp h b) (bytes_cmp r s) → o ≡ bytes_cmp e.0 q
entries_compared h b r s w e q o v i f k d = compared e.0 q h b r s o (ap (λ (p : List ℕ × Option (List ℕ)). p.0) v) f i k d

-- the head made of the first two numbers of a head and of a tail that has all else of it is that head
pub heads_alike : (t : Tail) (h : Head) → table_in t ≡ h.tab → count_in t ≡ h.count → third_in t ≡ h.third → fourth_in t ≡ h.fourth → head_in h.first h.second t ≡ h
heads_alike t h tab count third fourth =
    ap (λ n. with_numbers n (count_in t) (third_in t) (fourth_in t)) tab
    ∙ ap (λ n. with_numbers h.tab n (third_in t) (fourth_in t)) count
    ∙ ap (λ n. with_numbers h.tab h.count n (fourth_in t)) third
    ∙ ap (λ n. with_numbers h.tab h.count h.third n) fourth
  where
    with_numbers : ℕ → ℕ → ℕ → ℕ → Head
    with_numbers a b c d = record { tab = a; count = b; first = h.first; second = h.second; third = c; fourth = d }

-- an entry of the parts of a place, with a row
pub entry_made : (g h : Head) (r s p : List ℕ) (v w : Option (List ℕ)) → g ≡ h → s ≡ r → h.tab ∷ key_of h r ≡ p → v ≡ w → ◌≡◌ {A = List ℕ × Option (List ℕ)} (g.tab ∷ key_of g s, v) (p, w)
entry_made g h r s p v w d k e f =
    ap (pair v) (ap (λ x. x.tab ∷ key_of x s) d ∙ ap (λ x. h.tab ∷ key_of h x) k ∙ e) ∙ ap (λ o. pair o p) f
  where
    pair : Option (List ℕ) → List ℕ → List ℕ × Option (List ℕ)
    pair o x = (x, o)

-- the parts of an entry's place
pub parts_of_entry : (g h : Head) (r s : List ℕ) → g ≡ h → s ≡ r → IsHeadOf (key_of h r) h r → IsHeadOf (key_of g s) g s
parts_of_entry g h r s d e i = subst (λ x. IsHeadOf (key_of g x) g x) (sym e) (subst (λ x. IsHeadOf (key_of x r) x r) (sym d) i)

pub place_of_entry : (g h : Head) (r s : List ℕ) (w : Option (List ℕ)) (e : List ℕ × Option (List ℕ)) → g ≡ h → s ≡ r → (h.tab ∷ key_of h r, w) ≡ e → g.tab ∷ key_of g s ≡ e.0
place_of_entry g h r s w e d k v = ap (λ x. x.tab ∷ key_of x s) d ∙ ap (λ x. h.tab ∷ key_of h x) k ∙ ap (λ (p : List ℕ × Option (List ℕ)). p.0) v

pub head_of_entry : (g h : Head) (r : List ℕ) (w : Option (List ℕ)) (e : List ℕ × Option (List ℕ)) → g ≡ h → (h.tab ∷ key_of h r, w) ≡ e → IsHeadOf (key_of h r) h r → IsHeadOfPlace g e.0
head_of_entry g h r w e d v i = subst (λ x. IsHeadOfPlace x e.0) (sym d) (head_within e.0 h r (ap (λ (p : List ℕ × Option (List ℕ)). p.0) v) i)

-- what the bytes of a head and those behind it append
pub key_appended : (old mid new : List ℕ) (g h : Head) (r : List ℕ) (w : Option (List ℕ)) (e : List ℕ × Option (List ℕ)) → g ≡ h → (h.tab ∷ key_of h r, w) ≡ e → mid ≡ old ++ take g.count (bytes_of g) → new ≡ mid ++ r → new ≡ old ++ drop 1 e.0
key_appended old mid new g h r w e d v m n =
    n ∙ ap (λ x. x ++ r) m ∙ append_assoc old (take g.count (bytes_of g)) r ∙ ap (λ x. old ++ (take x.count (bytes_of x) ++ r)) d ∙ ap (λ (p : List ℕ × Option (List ℕ)). old ++ drop 1 p.0) v

pub key_written : (mid new : List ℕ) (tab : ℕ) (g h : Head) (r : List ℕ) (w : Option (List ℕ)) (e : List ℕ × Option (List ℕ)) → g ≡ h → (h.tab ∷ key_of h r, w) ≡ e → mid ≡ take g.count (bytes_of g) → new ≡ mid ++ r → tab ≡ h.tab → e.0 ≡ tab ∷ new
key_written mid new tab g h r w e d v m n s =
    sym (ap (λ (x : ℕ). x ∷ new) s ∙ ap (λ (x : List ℕ). h.tab ∷ x) (n ∙ ap (λ x. x ++ r) m) ∙ ap (λ x. h.tab ∷ (take x.count (bytes_of x) ++ r)) d ∙ ap (λ (p : List ℕ × Option (List ℕ)). p.0) v)
