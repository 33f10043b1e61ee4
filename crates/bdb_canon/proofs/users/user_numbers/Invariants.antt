use Rattle.std.proofs.Common.{◌≡◌, take}
use Rattle.bdb_base.specs.Queries.{live_numbers}
use Rattle.bdb_canon.proofs.users.user_numbers.Given as goal

abbrev pub invariant-loop-at : goal.invariant-loop-at
invariant-loop-at l = l.numbers ≡ live_numbers 1 (take l.at l.users)
