use Rattle.std.proofs.Common.{◌≡◌, rules}
use Rattle.std.specs.Ordering.{is_lt}
use Rattle.std.proofs.lemmas.Fn.{always_returns_same}
use Rattle.std.proofs.lemmas.List.Sorted.{ranks_by}
use Rattle.bdb_base.specs.OrderLemmas.{path_exact}
use Rattle.bdb_names.specs.declared.named.NamedWorld.{NamedWorld}
use Rattle.bdb_leaving.specs.Paths.{world_is_before}
use Rattle.bdb_leaving.proofs.paths.in_order.Goals as goal

pub returns : goal.returns
returns c = record {
  moved = c.sort_by.ensures.permutation;
  sorted = c.in_ok-sort_by.ensures.sorted world_is_before (ranks_by path_exact.total (λ (x : NamedWorld). x.path))
      (always_returns_same _ (λ a r. is_lt r ≡ world_is_before a.0.now a.1.0.now) _ (λ a r f' k. search rules));
}
