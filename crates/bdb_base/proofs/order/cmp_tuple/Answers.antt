use Rattle.bdb_base.specs.Order.{tuple_cmp}
use Rattle.bdb_base.specs.OrderLemmas.{tuple_same, tuple_exact, equal_exactly}
use Rattle.bdb_base.proofs.order.cmp_tuple.Goals as goal

pub returns-clause-same : goal.returns-clause-same
returns-clause-same c = tuple_same c.tuple_order.result c.args.a.now c.args.b.now c.tuple_order.ensures

pub returns-clause-equal : goal.returns-clause-equal
returns-clause-equal c = equal_exactly tuple_cmp tuple_exact c.tuple_order.result c.args.a.now c.args.b.now c.tuple_order.ensures
