use Rattle.std.proofs.Common.{◌≡◌, filter, take}
use Rattle.bdb_exec.specs.Keys.{passes}
use Rattle.bdb_exec.proofs.passing.passing.Given as goal

abbrev pub invariant-loop-shared : goal.invariant-loop-shared
invariant-loop-shared l = l.pool ≡ filter (passes l.slots l.item l.behind) (take l.shared-index l.tuples)
