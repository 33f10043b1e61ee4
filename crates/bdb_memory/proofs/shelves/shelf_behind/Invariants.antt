use Rattle.std.proofs.Common.{◌≡◌, ◌<◌, [], true, length, slice_index_or}
use Rattle.bdb_memory.specs.Blocks.{starts_within}
use Rattle.bdb_memory.proofs.shelves.shelf_behind.Given as goal

abbrev pub invariant-loop : goal.invariant-loop
invariant-loop l = (l.at < length l.shelves) × (0 < l.at → starts_within l.probe (slice_index_or l.shelves l.at []) ≡ true)
