use Rattle.std.proofs.Common.{◌≡◌, ◌≤◌, length, take}
use Rattle.bdb_memory.specs.Entries.{rows_of}
use Rattle.bdb_memory.specs.Changes.{undone, HavePlaces}
use Rattle.bdb_memory.proofs.changes.roll_back.Given as goal

abbrev pub invariant-loop-at : goal.invariant-loop-at
invariant-loop-at l =
    (undone (take l.at l.changes.items) (rows_of l.rows) ≡ undone l.fn.changes.items (rows_of l.fn.rows))
    × HavePlaces (take l.at l.changes.items) l.rows
    × (l.at ≤ length l.changes.items)

abbrev pub decreases-loop-at : goal.decreases-loop-at
decreases-loop-at l = l.at
