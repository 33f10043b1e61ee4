use Rattle.std.proofs.Common.{◌≡◌, ◌≤◌, ◌-◌, true, length, map, take, drop}
use Rattle.std.specs.List.{list_all}
use Rattle.std.specs.Ordering.{is_lt, nat_cmp}
use Rattle.bdb_graph.proofs.numbers.place_of_number.Given as goal

abbrev pub invariant-loop-low : goal.invariant-loop-low
invariant-loop-low g l = record {
  in_order : l.low ≤ l.high;
  within : l.high ≤ length l.items;
  below : list_all (λ y. is_lt (nat_cmp y l.number)) (take l.low (map g.X.HasNumber.number_of l.items)) ≡ true;
  above : list_all (λ y. is_lt (nat_cmp l.number y)) (drop l.high (map g.X.HasNumber.number_of l.items)) ≡ true;
}

abbrev pub decreases-loop-low : goal.decreases-loop-low
decreases-loop-low g l = l.high - l.low
