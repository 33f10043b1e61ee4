use Rattle.std.proofs.Common.{◌≡◌, ◌++◌, take}
use Rattle.std.specs.List.{flat_map}
use Rattle.bdb_render.specs.Tables.{edge_line, row_line, tuple_line, world_line}
use Rattle.bdb_render.proofs.tables.append_structure.Given as goal

abbrev pub invariant-loop-tuple : goal.invariant-loop-tuple
invariant-loop-tuple l = l.out.items ≡ l.initial.out.items ++ flat_map (tuple_line l.catalog) (take l.tuple-index l.tuple-items)

abbrev pub invariant-loop-world : goal.invariant-loop-world
invariant-loop-world l = l.out.items ≡ l.initial.out.items ++ flat_map (world_line l.catalog l.canon) (take l.world-index l.world-items)

abbrev pub invariant-loop-edge : goal.invariant-loop-edge
invariant-loop-edge l = l.out.items ≡ l.initial.out.items ++ flat_map (edge_line l.catalog l.canon) (take l.edge-index l.edge-items)

abbrev pub invariant-loop-row : goal.invariant-loop-row
invariant-loop-row l = l.out.items ≡ l.initial.out.items ++ flat_map (row_line l.catalog l.canon) (take l.row-index l.row-items)
