use Rattle.std.proofs.Common.{◌≡◌, ◌++◌, drop}
use Rattle.bdb_model.specs.Pools.{plus_tuples}
use Rattle.bdb_model.proofs.pools.plus_tuples.Given as goal

abbrev pub invariant-loop-row : goal.invariant-loop-row
invariant-loop-row l = plus_tuples l.rel l.world ≡ l.tuples ++ plus_tuples l.rel (drop l.row-index l.world)
