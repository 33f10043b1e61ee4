use Rattle.std.proofs.Common.{take}
use Rattle.bdb_exec.specs.Indexes.{GroupsBy}
use Rattle.bdb_exec.proofs.index.groups_of.Given as goal

abbrev pub invariant-loop-shared : goal.invariant-loop-shared
invariant-loop-shared l = GroupsBy l.cols (take l.shared-index l.tuples) l.groups
