-- Lemmas on places whose keys lie in the value itself.
use Rattle.std.proofs.Common.{◌≡◌, ℕ, zero, suc, ◌<◌, ◌≤◌, ◌^◌, List, [], ◌∷◌, ◌++◌, length, take, refl, sym, ap, ◌∙◌, subst, arith, append-nil, take_all, length-take-le}
use Rattle.std.specs.Int.{w64, to_be_bytes}
use Rattle.std.proofs.lemmas.List.{drop_all, length-take}
use Rattle.bdb_memory.specs.Heads.{padded, bytes_of, key_of, IsHeadOf}
use Rattle.bdb_memory.specs.declared.head.Head.{Head}
use Rattle.bdb_memory.proofs.HeadsLemmas.{head_of_words}

length-padded : (n : ℕ) (key : List ℕ) → length (padded n key) ≡ n
length-padded zero [] = refl
length-padded zero (b ∷ key) = refl
length-padded (suc n) [] = ap (λ m. suc m) (length-padded n [])
length-padded (suc n) (b ∷ key) = ap (λ m. suc m) (length-padded n key)

padded_twice : (n : ℕ) (key : List ℕ) → padded n (padded n key) ≡ padded n key
padded_twice zero [] = refl
padded_twice zero (b ∷ key) = refl
padded_twice (suc n) [] = ap (λ l. 0 ∷ l) (padded_twice n [])
padded_twice (suc n) (b ∷ key) = ap (λ l. b ∷ l) (padded_twice n key)

-- the key of a place of at most 33 bytes lies in its head
pub key_is_near : (h : Head) (rest p : List ℕ) → h.tab ∷ key_of h rest ≡ p → IsHeadOf (key_of h rest) h rest → length p ≤ 33 → key_of h rest ≡ take h.count (bytes_of h)
key_is_near h rest p e i l =
    let n : suc (length (key_of h rest)) ≡ length p = ap length e in
    let none : rest ≡ [] = i.behind ∙ drop_all 32 (key_of h rest) (omega arith) in
    ap (λ r. take h.count (bytes_of h) ++ r) none ∙ append-nil (take h.count (bytes_of h))

pub near_whole : (h : Head) (rest p bytes : List ℕ) → bytes ≡ bytes_of h → h.tab ∷ key_of h rest ≡ p → IsHeadOf (key_of h rest) h rest → length p ≤ 33 → h.tab ∷ take h.count bytes ≡ p
near_whole h rest p bytes b e i l = ap (λ x. h.tab ∷ take h.count x) b ∙ ap (λ k. h.tab ∷ k) (sym (key_is_near h rest p e i l)) ∙ e

pub near_padded : (h : Head) (rest p bytes : List ℕ) → bytes ≡ bytes_of h → h.tab ∷ key_of h rest ≡ p → IsHeadOf (key_of h rest) h rest → length p ≤ 33 → (h.count ≤ 32) × (padded 32 (take h.count bytes) ≡ bytes)
near_padded h rest p bytes b e i l =
    let m = length-take 32 (key_of h rest) in
    let n = i.count in (
      omega arith,
      ap (λ x. padded 32 (take h.count x)) b ∙ ap (padded 32) (sym (key_is_near h rest p e i l)) ∙ i.bytes ∙ sym b,
    )

-- the head of a key by its bytes and the zeros behind them
pub head_of_padded : (bytes : List ℕ) (h : Head) (n : ℕ) → h.count ≡ n → n ≤ 32 → padded 32 (take n bytes) ≡ bytes
    → padded 32 bytes ≡ to_be_bytes w64 h.first ++ (to_be_bytes w64 h.second ++ (to_be_bytes w64 h.third ++ to_be_bytes w64 h.fourth))
    → h.first < 2 ^ 64 → h.second < 2 ^ 64 → h.third < 2 ^ 64 → h.fourth < 2 ^ 64 → IsHeadOf (take n bytes) h []
head_of_padded bytes h n e m p w i j k l =
    let whole : length bytes ≡ 32 = ap length (sym p) ∙ length-padded 32 (take n bytes) in
    let some : length (take n bytes) ≡ n = length-take-le n bytes (omega arith) in
    let all : take 32 (take n bytes) ≡ take n bytes = take_all 32 (take n bytes) (omega arith) in
    let same : padded 32 (take n bytes) ≡ padded 32 bytes = sym (padded_twice 32 (take n bytes)) ∙ ap (padded 32) p in
    subst (IsHeadOf (take n bytes) h) (drop_all 32 (take n bytes) (omega arith))
    (head_of_words (take n bytes) h (e ∙ sym some ∙ ap length (sym all)) (same ∙ w) i j k l)
