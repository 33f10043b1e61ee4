use Rattle.std.proofs.Common.{◌≡◌, take}
use Rattle.bdb_undo.specs.Changes.{missing_from}
use Rattle.bdb_undo.proofs.change.missing_from.Given as goal

abbrev pub invariant-loop-stmt : goal.invariant-loop-stmt
invariant-loop-stmt l = l.missing ≡ missing_from l.others (take l.stmt-index l.stmts)
