-- The bytes with which places begin, and the greatest head of such a place.
use Rattle.std.specs.Prelude.{◌≡◌, ℕ, ◌<◌, ◌^◌, Bool, false, List, [], ◌∷◌, Option, None, Some}
use Prim.Native.Nat.{zero, suc}
use Rattle.bdb_base.specs.Segments.{is_prefix}
use Rattle.bdb_memory.specs.Heads.{bytes_of}
use Rattle.bdb_memory.specs.declared.head.Head.{Head}

-- the first `n` bytes of a key, with 255 behind it where it has fewer
abbrev pub filled : ℕ → List ℕ → List ℕ
filled zero key = []
filled (suc n) [] = 255 ∷ filled n []
filled (suc n) (b ∷ key) = b ∷ filled n key

-- no key that begins so has a greater head than this, in the same table
pub record IsLastHead (h : Head) (prefix : List ℕ) : Type 0 where
  pub bytes : filled 32 prefix ≡ bytes_of h
  pub count : h.count ≡ 32
  pub first_fits : h.first < 2 ^ 64
  pub second_fits : h.second < 2 ^ 64
  pub third_fits : h.third < 2 ^ 64
  pub fourth_fits : h.fourth < 2 ^ 64

-- whether what is behind a head begins with these bytes, if there are such
abbrev pub goes_on : Option (List ℕ) → List ℕ → Bool
goes_on None rest = false
goes_on (Some bytes) rest = is_prefix bytes rest
