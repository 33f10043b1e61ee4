use Rattle.std.proofs.Common.{◌∙◌, ℕ, ap}
use Rattle.bdb_base.specs.Order.{tuple_cmp}
use Rattle.bdb_base.specs.OrderLemmas.{tuple_exact}
use Rattle.bdb_base.specs.SortedSet.{ascending, put_in}
use Rattle.bdb_base.specs.declared.tuple.Tuple.{Tuple}
use Rattle.bdb_base.proofs.SetLemmas.{put_keeps_order}
use Rattle.bdb_stored.proofs.SetLoops.{all_put, one_put}
use Rattle.bdb_stored.proofs.tuples.set_of.Goals as goal

pub loop-row-preserved : goal.loop-row-preserved
loop-row-preserved c =
    let x = c.row-item.result in
    let put = c.in_ok-put_copy.ensures.ok in
    record {
      set = one_put c.args.rows.now c.loop-row.row-index x c.loop-row.tuples c.put_copy.new.list c.loop-row-test.true c.loop-row.invariant.set (put ∙ ap (λ (e : ℕ × Tuple). put_in tuple_cmp c.loop-row.tuples e.1) c.row-item.is);
      sorted = ap (ascending tuple_cmp) put ∙ put_keeps_order tuple_exact c.loop-row.tuples x.1 c.loop-row.invariant.sorted;
    }

pub returns : goal.returns
returns c = all_put c.args.rows.now c.loop-row.row-index c.loop-row.tuples c.loop-row-test.false c.loop-row.invariant.set
