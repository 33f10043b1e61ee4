use Rattle.std.proofs.Common.{take}
use Rattle.bdb_val.specs.Visits.{PushesRead}
use Rattle.bdb_val.proofs.links.push_read.Given as goal

abbrev pub invariant-loop-index : goal.invariant-loop-index
invariant-loop-index l = PushesRead (take l.index l.span) l.initial.list.items l.list.items
