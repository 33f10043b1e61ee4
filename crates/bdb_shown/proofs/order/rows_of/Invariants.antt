use Rattle.std.proofs.Common.{◌≡◌, map, take}
use Rattle.bdb_shown.specs.Rows.{raw}
use Rattle.bdb_shown.proofs.order.rows_of.Given as goal

abbrev pub invariant-loop-index : goal.invariant-loop-index
invariant-loop-index l = map raw l.rows.items ≡ take l.index l.span
