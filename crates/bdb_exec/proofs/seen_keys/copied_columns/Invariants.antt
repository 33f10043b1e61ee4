use Rattle.std.proofs.Common.{◌≡◌, take}
use Rattle.bdb_exec.proofs.seen_keys.copied_columns.Given as goal

abbrev pub invariant-loop-r : goal.invariant-loop-r
invariant-loop-r l = l.columns ≡ take l.r-index l.take
