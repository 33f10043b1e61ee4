use Rattle.std.proofs.Common.{◌≡◌, ◌++◌, take}
use Rattle.bdb_memory.specs.Under.{entries_under}
use Rattle.bdb_memory.proofs.under.take_entries.Given as goal

abbrev pub invariant-loop-entry : goal.invariant-loop-entry
invariant-loop-entry l = l.span ≡ l.fn.span ++ entries_under l.opening (take l.entry-index l.entries)
