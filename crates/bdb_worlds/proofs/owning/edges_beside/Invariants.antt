use Rattle.std.proofs.Common.{◌≡◌, take}
use Rattle.std.specs.List.{flat_map}
use Rattle.bdb_worlds.specs.Owns.{edge_beside}
use Rattle.bdb_worlds.proofs.owning.edges_beside.Given as goal

abbrev pub invariant-loop-row : goal.invariant-loop-row
invariant-loop-row l = l.edges.items ≡ flat_map (edge_beside l.uid) (take l.row-index l.rows)
