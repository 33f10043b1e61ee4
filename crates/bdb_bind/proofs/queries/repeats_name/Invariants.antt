use Rattle.std.proofs.Common.{◌≡◌, length}
use Rattle.bdb_bind.specs.QueryLines.{repeats_name}
use Rattle.bdb_bind.proofs.queries.repeats_name.Given as goal

abbrev pub invariant-loop-rest : goal.invariant-loop-rest
invariant-loop-rest l = repeats_name l.path ≡ repeats_name l.rest

abbrev pub decreases-loop-rest : goal.decreases-loop-rest
decreases-loop-rest l = length l.rest
