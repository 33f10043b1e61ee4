use Rattle.std.proofs.Common.{◌<◌, length}
use Rattle.bdb_trans.proofs.choosing.best_of.Given as goal

abbrev pub invariant-loop-at : goal.invariant-loop-at
invariant-loop-at l = l.best < length l.left
