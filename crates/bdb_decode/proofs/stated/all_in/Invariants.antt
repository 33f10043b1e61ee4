use Rattle.std.proofs.Common.{◌≡◌, length}
use Rattle.bdb_decode.specs.Stated.{all_in}
use Rattle.bdb_decode.proofs.stated.all_in.Given as goal

abbrev pub decreases-loop-rest : goal.decreases-loop-rest
decreases-loop-rest g l = length l.rest

abbrev pub invariant-loop-rest : goal.invariant-loop-rest
invariant-loop-rest g l = all_in g.X.Ordered.order l.set l.fn.items ≡ all_in g.X.Ordered.order l.set l.rest
