use Rattle.std.proofs.Common.{◌≡◌, true, drop}
use Rattle.bdb_base.specs.Order.{statement_cmp}
use Rattle.bdb_base.specs.SortedSet.{ascending}
use Rattle.bdb_base.specs.Changes.{without_statements}
use Rattle.bdb_update.proofs.reached.without_statements.Given as goal

abbrev pub invariant-loop-stmt : goal.invariant-loop-stmt
invariant-loop-stmt l = record {
  in_order : ascending statement_cmp l.left ≡ true;
  rest : without_statements l.left (drop l.stmt-index l.gone) ≡ without_statements l.fn.stmts l.gone;
}
