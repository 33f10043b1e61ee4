use Rattle.bdb_tables.proofs.CopyLemmas.{AreCopiesTo}
use Rattle.bdb_tables.proofs.copies.make_copies.Given as goal

abbrev pub invariant-loop-index : goal.invariant-loop-index
invariant-loop-index l = AreCopiesTo l.to l.index l.fn.span l.span
