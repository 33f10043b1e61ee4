use Rattle.std.proofs.Common.{◌∙◌, ap}
use Rattle.bdb_base.specs.Order.{statement_cmp}
use Rattle.bdb_base.specs.OrderLemmas.{statement_exact}
use Rattle.bdb_base.specs.SortedSet.{ascending}
use Rattle.bdb_base.proofs.SetLemmas.{put_keeps_order}
use Rattle.bdb_samples.proofs.given.stmts_of.Goals as goal

pub loop-path-preserved : goal.loop-path-preserved
loop-path-preserved c = ap (ascending statement_cmp) c.in_ok-_added.ensures.ok ∙ put_keeps_order statement_exact c.loop-path.stmts c.in_ok-stmt.stmt c.loop-path.invariant
