use Rattle.std.proofs.Common.{◌≡◌, drop}
use Rattle.bdb_memory.specs.Entries.{rows_of}
use Rattle.bdb_memory.specs.Changes.{undone, HavePlaces}
use Rattle.bdb_keep.specs.Spans.{with_rows}
use Rattle.bdb_memory.proofs.many.put_rows.Given as goal

abbrev pub invariant-loop-index : goal.invariant-loop-index
invariant-loop-index l =
    (with_rows l.tab (rows_of l.rows) (drop l.index l.span) ≡ with_rows l.tab (rows_of l.fn.rows) l.span)
    × (undone l.changes.items (rows_of l.rows) ≡ undone l.fn.changes.items (rows_of l.fn.rows))
    × HavePlaces l.changes.items l.rows
