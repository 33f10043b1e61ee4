use Rattle.std.proofs.Common.{◌∙◌, ap, sym}
use Rattle.std.proofs.lemmas.List.{drop_all}
use Rattle.bdb_base.specs.Order.{statement_cmp}
use Rattle.bdb_base.specs.OrderLemmas.{statement_exact}
use Rattle.bdb_base.specs.SortedSet.{ascending, put_all}
use Rattle.bdb_base.proofs.SetLemmas.{loop_makes_set, put_keeps_order}
use Rattle.bdb_session.proofs.NotingLemmas.{put_more}
use Rattle.bdb_session.proofs.changes.statement_set.Goals as goal

pub loop-stmt-preserved : goal.loop-stmt-preserved
loop-stmt-preserved c = record {
  sorted = ap (ascending statement_cmp) c.in_ok-_added.ensures.ok ∙ put_keeps_order statement_exact c.loop-stmt.set c.stmt-item.result c.loop-stmt.invariant.sorted;
  rest = c.loop-stmt.invariant.rest
      ∙ put_more c.args.stmts.now c.loop-stmt.stmt-index c.stmt-item.result c.loop-stmt.set c.put_copy.new.list c.loop-stmt-test.true c.stmt-item.is c.in_ok-_added.ensures.ok;
}

pub returns : goal.returns
returns c =
    sym (ap (put_all statement_cmp c.loop-stmt.set) (drop_all c.loop-stmt.stmt-index c.args.stmts.now c.loop-stmt-test.false))
    ∙ sym c.loop-stmt.invariant.rest ∙ loop_makes_set statement_exact c.args.stmts.now
