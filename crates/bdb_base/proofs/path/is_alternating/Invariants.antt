use Rattle.std.proofs.Common.{◌≡◌, length}
use Rattle.bdb_base.specs.Alternation.{alternates}
use Rattle.bdb_base.proofs.path.is_alternating.Given as goal

abbrev pub invariant-loop-rest : goal.invariant-loop-rest
invariant-loop-rest l = alternates l.users ≡ alternates l.rest

abbrev pub decreases-loop-rest : goal.decreases-loop-rest
decreases-loop-rest l = length l.rest
