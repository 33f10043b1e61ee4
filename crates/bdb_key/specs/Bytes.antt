-- How keys are spelled.
use Rattle.std.specs.Prelude.{◌≡◌, ℕ, ◌+◌, ◌-◌, ◌^◌, ℤ, pos, negsuc, List, [], ◌∷◌, ◌++◌, length}
use Rattle.std.specs.Int.{w32, w64, to_be_bytes}
use Rattle.std.specs.List.{flat_map}
use Rattle.bdb_base.specs.declared.kinds.Value.{Value}
use Rattle.bdb_base.specs.declared.kinds.Value.TheVariants.{Int, Text}
use Rattle.bdb_key.specs.declared.part.Part.{Part}
use Rattle.bdb_key.specs.declared.part.Part.TheVariants.{Num, Val, Vals, Path}

-- a number: four bytes, the highest first
abbrev pub num_bytes : ℕ → List ℕ
num_bytes n = to_be_bytes w32 n

-- an integer as a number from 0 up: its two's complement with the top bit flipped
abbrev pub raised : ℤ → ℕ
raised (pos n) = n + 2 ^ 63
raised (negsuc n) = 2 ^ 63 - 1 - n

-- an integer: 1, then eight bytes
abbrev pub int_bytes : ℤ → List ℕ
int_bytes m = 1 ∷ to_be_bytes w64 (raised m)

-- a text: 2, its bytes, 0
abbrev pub text_bytes : List ℕ → List ℕ
text_bytes text = 2 ∷ (text ++ 0 ∷ [])

-- a value
abbrev pub value_bytes : Value → List ℕ
value_bytes (Int m) = int_bytes m
value_bytes (Text text) = text_bytes text

-- values, one after the other
abbrev pub values_bytes : List Value → List ℕ
values_bytes values = flat_map value_bytes values

-- a list of values: how many they are, then each value
abbrev pub vals_bytes : List Value → List ℕ
vals_bytes values = num_bytes (length values) ++ values_bytes values

-- a path: how many users it has, then each user's number
abbrev pub path_bytes : List ℕ → List ℕ
path_bytes path = num_bytes (length path) ++ flat_map num_bytes path

-- a part of a key
abbrev pub part_bytes : Part → List ℕ
part_bytes (Num n) = num_bytes n
part_bytes (Val value) = value_bytes value
part_bytes (Vals values) = vals_bytes values
part_bytes (Path path) = path_bytes path

-- a key: its parts, one after the other
abbrev pub key_bytes : List Part → List ℕ
key_bytes parts = flat_map part_bytes parts

-- the bytes before, and some more behind them
abbrev pub Grows : List ℕ → List ℕ → Type 0
Grows old new = (more : List ℕ) × (new ≡ old ++ more)
