use Rattle.std.proofs.Common.{◌≡◌, [], take}
use Rattle.bdb_val.specs.GroupChanges.{group_changes}
use Rattle.bdb_val.proofs.changes.put_all_new.Given as goal

abbrev pub invariant-loop-row : goal.invariant-loop-row
invariant-loop-row l = l.changes.items ≡ group_changes [] (take l.row-index l.from)
