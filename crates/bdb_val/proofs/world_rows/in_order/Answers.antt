use Rattle.std.proofs.Common.{◌≡◌, List, map, sym, subst, rules}
use Rattle.std.specs.List.Sorted.{IsPermutation, IsSortedBy}
use Rattle.std.specs.Ordering.{is_lt}
use Rattle.std.proofs.lemmas.Fn.{always_returns_same}
use Rattle.std.proofs.lemmas.List.Sorted.{ranks_by}
use Rattle.bdb_base.specs.declared.kinds.Held.{Held}
use Rattle.bdb_base.specs.OrderLemmas.{tuple_total}
use Rattle.bdb_val.specs.WorldReads.{held_row, tuple_is_before}
use Rattle.bdb_val.proofs.world_rows.in_order.Goals as goal

pub returns : goal.returns
returns c = record {
  moved = subst (IsPermutation (map held_row c.args.rows.items)) (sym c.from_vec.ensures)
      (subst (λ (xs : List Held). IsPermutation xs c.sort_by.new.self.items) c.in_ok-held.ensures c.sort_by.ensures.permutation);
  sorted = subst (IsSortedBy tuple_is_before) (sym c.from_vec.ensures)
      (c.in_ok-sort_by.ensures.sorted tuple_is_before (ranks_by tuple_total (λ (g : Held). g.tuple))
      (always_returns_same _ (λ a r. is_lt r ≡ tuple_is_before a.0.now a.1.0.now) _ (λ a r f' k. search rules)));
}
