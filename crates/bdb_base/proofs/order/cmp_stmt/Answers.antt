use Rattle.bdb_base.specs.Order.{statement_cmp}
use Rattle.bdb_base.specs.OrderLemmas.{statement_same, statement_exact, equal_exactly}
use Rattle.bdb_base.proofs.order.cmp_stmt.Goals as goal

pub returns-clause-same : goal.returns-clause-same
returns-clause-same c = statement_same c.stmt_order.result c.args.a.now c.args.b.now c.stmt_order.ensures

pub returns-clause-equal : goal.returns-clause-equal
returns-clause-equal c = equal_exactly statement_cmp statement_exact c.stmt_order.result c.args.a.now c.args.b.now c.stmt_order.ensures
