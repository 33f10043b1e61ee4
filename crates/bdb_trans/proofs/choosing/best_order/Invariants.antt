use Rattle.std.proofs.Common.{◌++◌, IsPermutation, vec_len}
use Rattle.bdb_trans.proofs.choosing.best_order.Given as goal

-- the places chosen and those left are the written ones
abbrev pub invariant-loop-tied : goal.invariant-loop-tied
invariant-loop-tied l = IsPermutation l.written (l.order.items ++ l.left.items)

abbrev pub decreases-loop-tied : goal.decreases-loop-tied
decreases-loop-tied l = vec_len l.left
