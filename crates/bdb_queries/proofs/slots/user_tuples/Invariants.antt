use Rattle.std.proofs.Common.{◌≡◌, ◌+◌, ◌≤◌, ◌++◌, drop, length}
use Rattle.bdb_base.specs.Limits.{most_users}
use Rattle.bdb_queries.specs.Slots.{user_tuples}
use Rattle.bdb_queries.proofs.slots.user_tuples.Given as goal

abbrev pub invariant-loop-slot : goal.invariant-loop-slot
invariant-loop-slot l = (length l.users ≤ most_users) × (l.uid ≡ l.slot-index + 1) × (user_tuples 1 l.users ≡ l.tuples ++ user_tuples l.uid (drop l.slot-index l.users))
