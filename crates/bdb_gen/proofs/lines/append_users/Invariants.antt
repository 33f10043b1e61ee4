use Rattle.std.proofs.Common.{◌≡◌, ◌++◌, take}
use Rattle.std.specs.List.{flat_map}
use Rattle.bdb_gen.specs.Scripts.{user_line}
use Rattle.bdb_gen.proofs.lines.append_users.Given as goal

abbrev pub invariant-loop-user : goal.invariant-loop-user
invariant-loop-user l = l.out.items ≡ l.fn.out.items ++ flat_map user_line (take l.user-index l.users)
