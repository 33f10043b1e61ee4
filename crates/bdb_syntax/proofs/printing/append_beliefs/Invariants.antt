use Rattle.std.proofs.Common.{◌≡◌, ◌++◌, take}
use Rattle.std.specs.List.{flat_map}
use Rattle.bdb_syntax.specs.Printed.{belief_text}
use Rattle.bdb_syntax.proofs.printing.append_beliefs.Given as goal

abbrev pub invariant-loop-user : goal.invariant-loop-user
invariant-loop-user l = l.out.items ≡ l.initial.out.items ++ flat_map belief_text (take l.user-index l.user-items)
