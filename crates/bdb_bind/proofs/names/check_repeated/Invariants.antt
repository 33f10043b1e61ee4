use Rattle.std.proofs.Common.{◌≡◌, [], take, drop}
use Rattle.bdb_bind.specs.Lines.{first_repeated}
use Rattle.bdb_bind.proofs.names.check_repeated.Given as goal

abbrev pub invariant-loop-at : goal.invariant-loop-at
invariant-loop-at l = first_repeated [] l.cols ≡ first_repeated (take l.at l.cols) (drop l.at l.cols)
