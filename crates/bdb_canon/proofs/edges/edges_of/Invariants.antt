use Rattle.std.proofs.Common.{◌≡◌, take}
use Rattle.std.specs.List.{flat_map}
use Rattle.bdb_canon.specs.Canonical.{edges_from}
use Rattle.bdb_canon.proofs.edges.edges_of.Given as goal

abbrev pub invariant-loop-at : goal.invariant-loop-at
invariant-loop-at l = l.edges ≡ flat_map (edges_from l.users l.states) (take l.at l.states)
