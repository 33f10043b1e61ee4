use Rattle.std.proofs.Common.{◌≡◌, length}
use Rattle.bdb_bind.specs.Lines.{has_repeat}
use Rattle.bdb_bind.proofs.shape.has_repeat.Given as goal

abbrev pub invariant-loop-rest : goal.invariant-loop-rest
invariant-loop-rest l = has_repeat l.names ≡ has_repeat l.rest

abbrev pub decreases-loop-rest : goal.decreases-loop-rest
decreases-loop-rest l = length l.rest
