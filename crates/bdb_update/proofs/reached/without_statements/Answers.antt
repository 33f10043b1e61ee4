use Rattle.std.proofs.Common.{◌∙◌, ap}
use Rattle.bdb_base.specs.Order.{statement_cmp}
use Rattle.bdb_base.specs.OrderLemmas.{statement_exact}
use Rattle.bdb_base.specs.SortedSet.{ascending}
use Rattle.bdb_base.specs.Changes.{without_statements}
use Rattle.bdb_base.proofs.SetLemmas.{take_keeps_order}
use Rattle.bdb_update.proofs.StepLemmas.{without_step}
use Rattle.bdb_update.proofs.reached.without_statements.Goals as goal

pub loop-stmt-preserved : goal.loop-stmt-preserved
loop-stmt-preserved c =
    let taken = c.take-taken.ensures.taken in
    record {
      in_order = ap (ascending statement_cmp) taken ∙ take_keeps_order statement_exact c.loop-stmt.left c.stmt-item.result c.loop-stmt.invariant.in_order;
      rest = without_step c.args.gone.now c.loop-stmt.stmt-index c.stmt-item.result c.loop-stmt.left c.take-taken.new.list (without_statements c.args.stmts c.args.gone.now) c.loop-stmt-test.true c.stmt-item.is taken c.loop-stmt.invariant.rest;
    }
