use Rattle.std.proofs.Common.{◌≡◌, rules}
use Rattle.std.specs.Ordering.{is_lt}
use Rattle.std.proofs.lemmas.Fn.{always_returns_same}
use Rattle.std.proofs.lemmas.List.Sorted.{ranks_by}
use Rattle.bdb_base.specs.Order.{statement_cmp}
use Rattle.bdb_base.specs.OrderLemmas.{statement_total}
use Rattle.bdb_base.specs.declared.kinds.Stmt.{Stmt}
use Rattle.bdb_decode.proofs.rows.in_order.Goals as goal

pub returns-clause-moved : goal.returns-clause-moved
returns-clause-moved c = c.sort_by.ensures.permutation

pub returns-clause-sorted : goal.returns-clause-sorted
returns-clause-sorted c =
    c.in_ok-sort_by.ensures.sorted (λ a b. is_lt (statement_cmp a b)) (ranks_by statement_total (λ (x : Stmt). x))
    (always_returns_same _ (λ a r. is_lt r ≡ is_lt (statement_cmp a.0.now a.1.0.now)) _ (λ a r f' k. search rules))
