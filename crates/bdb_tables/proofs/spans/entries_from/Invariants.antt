use Rattle.std.proofs.Common.{take}
use Rattle.bdb_tables.specs.Spans.{Spell}
use Rattle.bdb_tables.proofs.spans.entries_from.Given as goal

abbrev pub invariant-loop-index : goal.invariant-loop-index
invariant-loop-index g l = Spell g.T.Tab.codec (take l.index l.span) l.rows.items
