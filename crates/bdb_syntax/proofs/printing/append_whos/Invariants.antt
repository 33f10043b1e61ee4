use Rattle.std.proofs.Common.{◌≡◌, ◌++◌, take}
use Rattle.std.specs.List.{flat_map}
use Rattle.bdb_syntax.specs.Printed.{who_text}
use Rattle.bdb_syntax.proofs.printing.append_whos.Given as goal

abbrev pub invariant-loop-who : goal.invariant-loop-who
invariant-loop-who l = l.out.items ≡ l.initial.out.items ++ flat_map who_text (take l.who-index l.who-items)
