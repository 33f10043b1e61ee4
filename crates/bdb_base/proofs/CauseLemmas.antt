-- Counts that rise.
use Rattle.std.proofs.Common.{◌≡◌, ℕ, ◌+◌, ◌*◌, ◌≤◌, arith}
use Rattle.bdb_base.specs.Causes.{Rose, Rises, RoseBy}

pub rose_later : (a b c : ℕ) → a ≤ b → Rose b c → Rose a c
rose_later a b c le r = omega arith

pub rises_once : (a b c : ℕ) → b ≡ a → RoseBy 1 b c → Rises 1 a c
rises_once a b c e r = λ k. omega arith

-- one step, and two for each of so many
pub rises_twice_and_once : (n k a b c : ℕ) → b ≤ c → n ≡ k → RoseBy 1 a b → Rises (2 * n) b c → Rises (2 * k + 1) a c
rises_twice_and_once n k a b c le same one edges below = let e = edges below in omega arith
