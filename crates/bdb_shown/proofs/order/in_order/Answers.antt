use Rattle.std.proofs.Common.{◌≡◌, map, subst, rules}
use Rattle.std.specs.List.Sorted.{IsPermutation}
use Rattle.std.specs.Ordering.{is_lt}
use Rattle.std.proofs.lemmas.Cmp.{nat_list_cmp_total}
use Rattle.std.proofs.lemmas.Fn.{always_returns_same}
use Rattle.std.proofs.lemmas.List.Sorted.{IsPermutation-map, ranks_by}
use Rattle.bdb_keep.specs.Spans.{Listed}
use Rattle.bdb_keep.specs.Tables.{bytes_cmp}
use Rattle.bdb_shown.specs.Rows.{raw}
use Rattle.bdb_shown.specs.declared.row.WorldRow.{WorldRow}
use Rattle.bdb_shown.proofs.order.in_order.Goals as goal

pub returns : goal.returns
returns c = record {
  moved = subst (λ (xs : Listed). IsPermutation xs (map raw c.sort_by.new.self.items)) c.in_ok-rows.ensures
      (IsPermutation-map raw c.in_ok-rows.rows.items c.sort_by.new.self.items c.sort_by.ensures.permutation);
  sorted = c.in_ok-sort_by.ensures.sorted (λ a b. is_lt (bytes_cmp a.tuple.now b.tuple.now)) (ranks_by nat_list_cmp_total (λ (r : WorldRow). r.tuple.now))
      (always_returns_same _ (λ a r. is_lt r ≡ is_lt (bytes_cmp a.0.now.tuple.now a.1.0.now.tuple.now)) _ (λ a r f' k. search rules));
}
