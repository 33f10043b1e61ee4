use Rattle.std.proofs.Common.{◌≡◌, true, drop}
use Rattle.bdb_base.specs.Changes.{with_statements}
use Rattle.bdb_base.specs.Order.{statement_cmp}
use Rattle.bdb_base.specs.SortedSet.{ascending}
use Rattle.bdb_update.proofs.reached.with_statements.Given as goal

abbrev pub invariant-loop-stmt : goal.invariant-loop-stmt
invariant-loop-stmt l = record {
  in_order : ascending statement_cmp l.next ≡ true;
  rest : with_statements l.next (drop l.stmt-index l.come) ≡ with_statements l.fn.stmts l.come;
}
