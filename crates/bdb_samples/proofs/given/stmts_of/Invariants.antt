use Rattle.std.proofs.Common.{◌≡◌, true}
use Rattle.bdb_base.specs.Order.{statement_cmp}
use Rattle.bdb_base.specs.SortedSet.{ascending}
use Rattle.bdb_samples.proofs.given.stmts_of.Given as goal

abbrev pub invariant-loop-path : goal.invariant-loop-path
invariant-loop-path l = ascending statement_cmp l.stmts ≡ true
