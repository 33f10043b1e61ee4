use Rattle.std.proofs.Common.{◌≡◌, true, drop}
use Rattle.bdb_base.specs.Changes.{with_statements}
use Rattle.bdb_base.specs.Order.{statement_cmp}
use Rattle.bdb_base.specs.SortedSet.{ascending}
use Rattle.bdb_undo.proofs.steps.put_each.Given as goal

-- what the statements to come make of those so far is what all make of the first ones
abbrev pub invariant-loop-stmt : goal.invariant-loop-stmt
invariant-loop-stmt l = record {
  catalog : l.base.catalog ≡ l.fn.base.catalog;
  sorted : ascending statement_cmp l.base.stmts ≡ true;
  rest : with_statements l.base.stmts (drop l.stmt-index l.stmts) ≡ with_statements l.fn.base.stmts l.stmts;
}
