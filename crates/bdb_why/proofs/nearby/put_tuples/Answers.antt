use Rattle.std.proofs.Common.{◌∙◌, ap, map, sym}
use Rattle.bdb_base.specs.Order.{statement_cmp}
use Rattle.bdb_base.specs.OrderLemmas.{statement_exact}
use Rattle.bdb_base.specs.SortedSet.{ascending, put_all, put_in}
use Rattle.bdb_base.specs.declared.kinds.Stmt.{Stmt}
use Rattle.bdb_base.proofs.SetLemmas.{put_keeps_order}
use Rattle.bdb_why.proofs.NearSetLemmas.{made, put_more}
use Rattle.bdb_why.proofs.nearby.put_tuples.Goals as goal

pub loop-tuple-preserved : goal.loop-tuple-preserved
loop-tuple-preserved c =
    let w = c.args.path.now in
    let s = c.args.sign in
    let u = c.in-Some.tuple in
    let so_far = put_all statement_cmp c.args.stmts.now (map (made w s) c.loop-tuple.yielded) in
    let stmt : Stmt = made c.in_ok-path.path s u in
    record {
      sorted = ap (ascending statement_cmp) c.in_ok-put.ensures.ok ∙ put_keeps_order statement_exact c.loop-tuple.stmts stmt c.loop-tuple.invariant.sorted;
      put = c.in_ok-put.ensures.ok ∙ ap (λ xs. put_in statement_cmp xs stmt) c.loop-tuple.invariant.put
          ∙ ap (λ p. put_in statement_cmp so_far (made p s u)) c.in_ok-path.ensures
          ∙ sym (put_more w s c.args.stmts.now c.loop-tuple.yielded u);
    }
