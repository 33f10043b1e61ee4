-- How the first call of others ends them.
use Rattle.std.proofs.Common.{ℕ, ◌+◌, ◌≤◌, arith}
use Rattle.bdb_base.specs.Causes.{RoseBy}

-- a count that rose by one is at most one more
pub rose_one : (before now : ℕ) → RoseBy 1 before now → now ≤ before + 1
rose_one before now e = omega (arith, e)
