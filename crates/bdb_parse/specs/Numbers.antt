-- Numbers, by their spelling.
use Rattle.std.specs.Prelude.{ℕ, ◌^◌, Bool, not, ◌&&◌, length, List, [], ◌∷◌, Option, Some, None, if◌then◌else◌, ◌==◌, pos, negsuc, ℤ, nat_lt}
use Rattle.std.specs.Char.{is_ascii_digit}
use Rattle.std.specs.List.{list_all}
use Rattle.std.specs.Str.Parse.{signed_digits_value}

-- one digit or more, and nothing else
abbrev pub are_digits : List ℕ → Bool
are_digits bytes = not (length bytes == 0) && list_all is_ascii_digit bytes

-- the bytes without a minus sign at their front
abbrev pub without_minus : List ℕ → List ℕ
without_minus [] = []
without_minus (c ∷ cs) = if c == 45 then cs else c ∷ cs

-- an optional minus sign and digits
abbrev pub is_number : List ℕ → Bool
is_number spelling = are_digits (without_minus spelling)

-- the number that a spelling writes; leading zeros change nothing, and '-0' is 0
abbrev pub number_written : List ℕ → Option ℤ
number_written spelling = if is_number spelling then Some (signed_digits_value 10 spelling) else None

-- a number is in i64
abbrev pub is_i64 : ℤ → Bool
is_i64 (pos n) = nat_lt n (2 ^ 63)
is_i64 (negsuc n) = nat_lt n (2 ^ 63)
