use Rattle.std.proofs.Common.{◌≡◌, take}
use Rattle.bdb_memory.specs.Tallies.{count_among}
use Rattle.bdb_memory.proofs.marked.count_entries.Given as goal

abbrev pub invariant-loop-entry : goal.invariant-loop-entry
invariant-loop-entry l = l.count ≡ count_among l.tab l.end l.number (take l.entry-index l.entries)
