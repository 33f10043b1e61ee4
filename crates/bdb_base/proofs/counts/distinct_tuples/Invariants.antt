use Rattle.std.proofs.Common.{◌≡◌, true, [], drop, map}
use Rattle.bdb_base.specs.Order.{tuple_cmp}
use Rattle.bdb_base.specs.SortedSet.{ascending, put_all}
use Rattle.bdb_base.proofs.counts.distinct_tuples.Given as goal

abbrev pub invariant-loop-stmt : goal.invariant-loop-stmt
invariant-loop-stmt l = record {
  in_order : ascending tuple_cmp l.tuples ≡ true;
  rest : put_all tuple_cmp l.tuples (map (λ x. x.tuple) (drop l.stmt-index l.stmts)) ≡ put_all tuple_cmp [] (map (λ x. x.tuple) l.stmts);
}
