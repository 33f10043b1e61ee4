use Rattle.std.proofs.Common.{◌∙◌, ◌<◌, ap, length, arith}
use Rattle.bdb_base.specs.Changes.{with_statements}
use Rattle.bdb_base.specs.Order.{statement_cmp}
use Rattle.bdb_base.specs.OrderLemmas.{statement_exact}
use Rattle.bdb_base.specs.SortedSet.{ascending}
use Rattle.bdb_base.proofs.SetLemmas.{put_keeps_order}
use Rattle.bdb_update.proofs.StepLemmas.{with_step}
use Rattle.bdb_update.proofs.reached.with_statements.Goals as goal

pub loop-stmt-preserved : goal.loop-stmt-preserved
loop-stmt-preserved c =
    let within : c.loop-stmt.stmt-index < length c.args.come.now = omega arith in
    let put = c.in_ok-_added.ensures.ok in
    record {
      in_order = ap (ascending statement_cmp) put ∙ put_keeps_order statement_exact c.loop-stmt.next c.stmt-item.result c.loop-stmt.invariant.in_order;
      rest = with_step c.args.come.now c.loop-stmt.stmt-index c.stmt-item.result c.loop-stmt.next c.put_copy.new.list (with_statements c.args.stmts c.args.come.now) within c.stmt-item.is put c.loop-stmt.invariant.rest;
    }
