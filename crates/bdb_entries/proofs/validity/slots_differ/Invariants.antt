use Rattle.std.proofs.Common.{◌≡◌, length}
use Rattle.bdb_entries.specs.Catalog.{slots_differ}
use Rattle.bdb_entries.proofs.validity.slots_differ.Given as goal

abbrev pub decreases-loop-rest : goal.decreases-loop-rest
decreases-loop-rest l = length l.rest

abbrev pub invariant-loop-rest : goal.invariant-loop-rest
invariant-loop-rest l = slots_differ l.fn.users ≡ slots_differ l.rest
