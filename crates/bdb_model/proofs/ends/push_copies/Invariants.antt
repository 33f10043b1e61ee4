use Rattle.std.proofs.Common.{◌≡◌, ◌++◌, take}
use Rattle.bdb_model.proofs.ends.push_copies.Given as goal

abbrev pub invariant-loop-x : goal.invariant-loop-x
invariant-loop-x l = l.near ≡ l.initial.near ++ take l.x-index l.stmts
