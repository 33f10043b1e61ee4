use Rattle.std.proofs.Common.{◌≡◌, drop}
use Rattle.bdb_undo.proofs.steps.take_each.Given as goal
use Rattle.bdb_base.specs.Changes.{without_statements}

-- what the statements to come leave of those so far is what all leave of the first ones
abbrev pub invariant-loop-stmt : goal.invariant-loop-stmt
invariant-loop-stmt l = record {
  catalog : l.base.catalog ≡ l.fn.base.catalog;
  rest : without_statements l.base.stmts (drop l.stmt-index l.stmts) ≡ without_statements l.fn.base.stmts l.stmts;
}
