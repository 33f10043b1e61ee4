use Rattle.bdb_base.specs.Order.{value_cmp}
use Rattle.bdb_base.specs.OrderLemmas.{value_same, value_exact, equal_exactly}
use Rattle.bdb_base.proofs.order.cmp_value.Goals as goal

pub returns-clause-same : goal.returns-clause-same
returns-clause-same c = value_same c.value_order.result c.args.a.now c.args.b.now c.value_order.ensures

pub returns-clause-equal : goal.returns-clause-equal
returns-clause-equal c = equal_exactly value_cmp value_exact c.value_order.result c.args.a.now c.args.b.now c.value_order.ensures
