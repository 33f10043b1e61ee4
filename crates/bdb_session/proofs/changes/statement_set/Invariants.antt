use Rattle.std.proofs.Common.{◌≡◌, true, [], drop}
use Rattle.bdb_base.specs.Order.{statement_cmp}
use Rattle.bdb_base.specs.SortedSet.{ascending, put_all}
use Rattle.bdb_session.proofs.changes.statement_set.Given as goal

-- the statements so far are in order, and those to come make of them the whole set
abbrev pub invariant-loop-stmt : goal.invariant-loop-stmt
invariant-loop-stmt l = record {
  sorted : ascending statement_cmp l.set ≡ true;
  rest : put_all statement_cmp [] l.stmts ≡ put_all statement_cmp l.set (drop l.stmt-index l.stmts);
}
