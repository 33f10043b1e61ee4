use Rattle.std.proofs.Common.{take}
use Rattle.bdb_tables.specs.GroupMarks.{SpellNumbered}
use Rattle.bdb_tables.proofs.marks.fill_numbered.Given as goal

abbrev pub invariant-loop-index : goal.invariant-loop-index
invariant-loop-index l = SpellNumbered (take l.index l.span) l.rows.items
