use Rattle.std.proofs.Common.{◌≡◌, ◌++◌, map, take}
use Rattle.bdb_stored.specs.Structure.{row_placed}
use Rattle.bdb_stored.proofs.rows.push_rows.Given as goal

abbrev pub invariant-loop-row : goal.invariant-loop-row
invariant-loop-row l = l.rows ≡ l.initial.rows ++ map (row_placed l.tuples l.world) (take l.row-index l.held)
