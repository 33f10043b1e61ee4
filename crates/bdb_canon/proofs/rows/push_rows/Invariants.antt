use Rattle.std.proofs.Common.{◌≡◌, ◌++◌, map, take}
use Rattle.bdb_canon.specs.Canonical.{row_entry}
use Rattle.bdb_canon.proofs.rows.push_rows.Given as goal

abbrev pub invariant-loop-held : goal.invariant-loop-held
invariant-loop-held l = l.rows ≡ l.initial.rows ++ map (row_entry l.states l.tuples l.path) (take l.held-index l.held-items)
