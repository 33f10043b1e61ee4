use Rattle.std.proofs.Common.{◌≡◌, ◌++◌, take}
use Rattle.std.specs.List.{flat_map}
use Rattle.bdb_canon.specs.Canonical.{edges_at}
use Rattle.bdb_canon.proofs.edges.push_edges.Given as goal

abbrev pub invariant-loop-uid : goal.invariant-loop-uid
invariant-loop-uid l = l.edges ≡ l.initial.edges ++ flat_map (edges_at l.states l.path) (take l.uid-index l.users)
