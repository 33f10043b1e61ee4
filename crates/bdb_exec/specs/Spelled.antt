-- What bytes of keys and rows spell.
use Rattle.std.specs.Prelude.{ℕ, suc, ◌-◌, ◌^◌, ℤ, pos, negsuc, nat_eq, nat_le, cond, List, [], ◌∷◌, length, take, drop}
use Prim.Native.Nat.{zero}
use Rattle.std.specs.Int.{w32, w64, from_be_bytes}
use Rattle.bdb_base.specs.declared.kinds.Value.{Value}
use Rattle.bdb_base.specs.declared.kinds.Value.TheVariants.{Int, Text}
use Rattle.bdb_base.specs.declared.tuple.Tuple.{Tuple}

-- the number that four bytes spell
abbrev pub number_in : List ℕ → ℕ
number_in bytes = from_be_bytes w32 bytes

-- the integer of a number whose top bit is flipped
abbrev pub lowered : ℕ → ℤ
lowered n = cond (nat_le (2 ^ 63) n) (pos (n - 2 ^ 63)) (negsuc (2 ^ 63 - 1 - n))

-- the bytes before the first 0
abbrev pub before_end : List ℕ → List ℕ
before_end [] = []
before_end (b ∷ bytes) = cond (nat_eq b 0) [] (b ∷ before_end bytes)

-- the bytes behind the first 0
abbrev pub behind_end : List ℕ → List ℕ
behind_end [] = []
behind_end (b ∷ bytes) = cond (nat_eq b 0) bytes (behind_end bytes)

-- the value that bytes begin with: an integer behind 1, else a text
abbrev pub value_in : ℕ → List ℕ → Value
value_in mark bytes = cond (nat_eq mark 1) (Int (lowered (from_be_bytes w64 (take 8 bytes)))) (Text (before_end bytes))

-- the bytes behind that value
abbrev pub behind_value : ℕ → List ℕ → List ℕ
behind_value mark bytes = cond (nat_eq mark 1) (drop 8 bytes) (behind_end bytes)

-- the values that bytes spell, at most so many
abbrev pub values_in : ℕ → List ℕ → List Value
values_in zero bytes = []
values_in (suc most) [] = []
values_in (suc most) (mark ∷ bytes) = value_in mark bytes ∷ values_in most (behind_value mark bytes)

-- the tuple that bytes spell
abbrev pub tuple_in : List ℕ → Tuple
tuple_in bytes = record { rel = number_in (take 4 bytes); vals = values_in (length bytes) (drop 4 bytes) }
