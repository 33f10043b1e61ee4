use Rattle.std.proofs.Common.{take}
use Rattle.bdb_key.specs.Reading.{HasNoEnd}
use Rattle.bdb_key.proofs.read.split_at_end.Given as goal

abbrev pub invariant-loop-at : goal.invariant-loop-at
invariant-loop-at l = HasNoEnd (take l.at l.bytes)
