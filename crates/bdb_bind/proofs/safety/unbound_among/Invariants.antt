use Rattle.std.proofs.Common.{◌≡◌, drop}
use Rattle.bdb_bind.specs.Safe.{unbound_among}
use Rattle.bdb_bind.proofs.safety.unbound_among.Given as goal

abbrev pub invariant-loop-at : goal.invariant-loop-at
invariant-loop-at l = unbound_among l.rels l.items l.known 0 l.items ≡ unbound_among l.rels l.items l.known l.at (drop l.at l.items)
