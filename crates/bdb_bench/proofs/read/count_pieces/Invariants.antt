use Rattle.std.proofs.Common.{◌≡◌, false}
use Rattle.bdb_bench.proofs.read.count_pieces.Given as goal

abbrev pub invariant-loop-block : goal.invariant-loop-block
invariant-loop-block l = l.cutter.is_spent ≡ false
