use Rattle.bdb_base.specs.Order.{path_cmp}
use Rattle.bdb_base.specs.OrderLemmas.{path_same, path_exact, equal_exactly}
use Rattle.bdb_base.proofs.order.cmp_path.Goals as goal

pub returns-clause-same : goal.returns-clause-same
returns-clause-same c = path_same c.path_order.result c.args.a.now c.args.b.now c.path_order.ensures

pub returns-clause-equal : goal.returns-clause-equal
returns-clause-equal c = equal_exactly path_cmp path_exact c.path_order.result c.args.a.now c.args.b.now c.path_order.ensures
