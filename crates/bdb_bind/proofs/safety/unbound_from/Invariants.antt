use Rattle.std.proofs.Common.{◌≡◌, drop}
use Rattle.bdb_bind.specs.Safe.{unbound_from}
use Rattle.bdb_bind.proofs.safety.unbound_from.Given as goal

abbrev pub invariant-loop-at : goal.invariant-loop-at
invariant-loop-at l = unbound_from l.items l.known l.item 0 l.cols ≡ unbound_from l.items l.known l.item l.at (drop l.at l.cols)
