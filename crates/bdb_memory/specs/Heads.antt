-- What places are as numbers.
use Rattle.std.specs.Prelude.{◌≡◌, ℕ, ◌<◌, ◌^◌, List, [], ◌∷◌, ◌++◌, length, take, drop}
use Rattle.std.specs.declared.cmp.Ordering.{Ordering}
use Rattle.std.specs.Ordering.{nat_cmp, ordering_then}
use Rattle.std.specs.Int.{w64, to_be_bytes}
use Prim.Native.Nat.{zero, suc}
use Rattle.bdb_memory.specs.declared.head.Head.{Head}

-- the first `n` bytes of a key, with zeros behind it where it has fewer
abbrev pub padded : ℕ → List ℕ → List ℕ
padded zero key = []
padded (suc n) [] = 0 ∷ padded n []
padded (suc n) (b ∷ key) = b ∷ padded n key

-- the bytes of a head's four numbers
abbrev pub bytes_of : Head → List ℕ
bytes_of h = to_be_bytes w64 h.first ++ (to_be_bytes w64 h.second ++ (to_be_bytes w64 h.third ++ (to_be_bytes w64 h.fourth ++ [])))

-- the key of a head with these bytes behind it
abbrev pub key_of : Head → List ℕ → List ℕ
key_of h rest = take h.count (bytes_of h) ++ rest

-- a head has the first 32 bytes of a key, and these bytes are behind them
pub record IsHeadOf (key : List ℕ) (h : Head) (rest : List ℕ) : Type 0 where
  pub bytes : padded 32 key ≡ bytes_of h
  pub count : h.count ≡ length (take 32 key)
  pub behind : rest ≡ drop 32 key
  pub first_fits : h.first < 2 ^ 64
  pub second_fits : h.second < 2 ^ 64
  pub third_fits : h.third < 2 ^ 64
  pub fourth_fits : h.fourth < 2 ^ 64

-- a head is that of a place
abbrev pub IsHeadOfPlace : Head → List ℕ → Type 0
IsHeadOfPlace h [] = ⊥
IsHeadOfPlace h (tab ∷ key) = (h.tab ≡ tab) × IsHeadOf key h (drop 32 key)

-- how heads compare in one table: by the bytes, and where these are the same by how many there are
abbrev pub numbers_cmp : Head → Head → Ordering
numbers_cmp a b = ordering_then (nat_cmp a.first b.first) (ordering_then (nat_cmp a.second b.second) (ordering_then (nat_cmp a.third b.third) (ordering_then (nat_cmp a.fourth b.fourth) (nat_cmp a.count b.count))))

-- how heads compare
abbrev pub heads_cmp : Head → Head → Ordering
heads_cmp a b = ordering_then (nat_cmp a.tab b.tab) (numbers_cmp a b)
