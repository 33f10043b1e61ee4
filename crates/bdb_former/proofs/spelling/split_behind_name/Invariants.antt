use Rattle.std.proofs.Common.{take}
use Rattle.bdb_key.specs.Reading.{HasNoEnd}
use Rattle.bdb_former.proofs.spelling.split_behind_name.Given as goal

abbrev pub invariant-loop-at : goal.invariant-loop-at
invariant-loop-at l = HasNoEnd (take l.at l.bytes)
