use Rattle.std.proofs.Common.{◌≡◌, take}
use Rattle.bdb_queries.proofs.slots.with_chosen.Given as goal

abbrev pub invariant-loop-slot : goal.invariant-loop-slot
invariant-loop-slot l = l.next.items ≡ take l.slot-index l.slots
