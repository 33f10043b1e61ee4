-- Reads in a loop, of calls that only read.
use Rattle.std.proofs.Common.{◌≡◌, ℕ, ◌≤◌, ◌+◌, ◌*◌, arith}
use Rattle.std.proofs.lemmas.Nat.{mul-le}

-- so many reads for each turn of a loop, one turn more
pub as_many_more : (before now after i each : ℕ) → now ≤ before + i * each → after ≤ now + each → after ≤ before + (i + 1) * each
as_many_more before now after i each h m = let e : (i + 1) * each ≡ i * each + each = grind arith in omega (arith, e, h, m)

-- and for all turns
pub as_many_all : (before now i all each : ℕ) → i ≤ all → now ≤ before + i * each → now ≤ before + all * each
as_many_all before now i all each le h = let e : i * each ≤ all * each = mul-le i each all each le (omega arith) in omega (arith, e, h)

-- the depths are read, and then each of the worlds is gone through
pub depths_and_turns : (before mid after depths count worlds turns all : ℕ) → mid ≤ before + (depths + 1) → after ≤ mid + turns → count ≡ depths → worlds ≡ count → all ≡ turns → after ≤ before + (worlds + 1 + all)
depths_and_turns before mid after depths count worlds turns all a b e f h = omega (arith, a, b, e, f, h)
