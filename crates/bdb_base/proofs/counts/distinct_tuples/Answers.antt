use Rattle.std.proofs.Common.{◌∙◌, ◌<◌, ◌≤◌, [], ap, length, map, arith}
use Rattle.bdb_base.specs.Order.{tuple_cmp}
use Rattle.bdb_base.specs.OrderLemmas.{tuple_exact}
use Rattle.bdb_base.specs.Same.{same_tuple}
use Rattle.bdb_base.specs.SameLemmas.{same_tuple-Decides}
use Rattle.bdb_base.specs.SortedSet.{ascending, put_all}
use Rattle.bdb_base.proofs.SetLemmas.{put_keeps_order}
use Rattle.bdb_base.proofs.CountLemmas.{put_all_step, put_all_end, put_all_count}
use Rattle.bdb_base.proofs.counts.distinct_tuples.Goals as goal

pub loop-stmt-preserved : goal.loop-stmt-preserved
loop-stmt-preserved c =
    let within : c.loop-stmt.stmt-index < length c.args.stmts.now = omega arith in
    record {
      in_order = ap (ascending tuple_cmp) c.in_ok-_added.ensures.ok ∙ put_keeps_order tuple_exact c.loop-stmt.tuples c.stmt-item.result.tuple c.loop-stmt.invariant.in_order;
      rest = put_all_step tuple_cmp (λ x. x.tuple) c.args.stmts.now c.loop-stmt.stmt-index c.stmt-item.result c.loop-stmt.tuples c.put_copy.new.list
          (put_all tuple_cmp [] (map (λ x. x.tuple) c.args.stmts.now)) within c.stmt-item.is c.in_ok-_added.ensures.ok c.loop-stmt.invariant.rest;
    }

pub returns : goal.returns
returns c =
    let past : length c.args.stmts.now ≤ c.loop-stmt.stmt-index = omega arith in
    c.len.ensures ∙ ap length (put_all_end tuple_cmp (λ x. x.tuple) c.args.stmts.now c.loop-stmt.stmt-index c.loop-stmt.tuples
    (put_all tuple_cmp [] (map (λ x. x.tuple) c.args.stmts.now)) past c.loop-stmt.invariant.rest)
    ∙ put_all_count same_tuple same_tuple-Decides tuple_exact (map (λ x. x.tuple) c.args.stmts.now)
