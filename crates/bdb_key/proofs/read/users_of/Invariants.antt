use Rattle.std.proofs.Common.{◌-◌, ℕ, List}
use Rattle.bdb_key.specs.Grammar.{IsNum}
use Rattle.bdb_key.specs.Reading.{Leads, AreMany, nums_bytes}
use Rattle.bdb_key.proofs.read.users_of.Given as goal

abbrev pub invariant-loop : goal.invariant-loop
invariant-loop l = record {
  done : Leads (AreMany IsNum l.counter) nums_bytes l.bytes l.users.items l.rest;
  only : (nums rest : List ℕ) → Leads (AreMany IsNum l.count) nums_bytes l.bytes nums rest → (left : List ℕ) × Leads (AreMany IsNum (l.count - l.counter)) nums_bytes l.rest left rest;
}
