use Rattle.std.proofs.Common.{◌≡◌, ◌≤◌, ◌-◌, true, length, take, drop}
use Rattle.std.specs.List.{list_all}
use Rattle.std.specs.Ordering.{is_lt}
use Rattle.bdb_base.proofs.ordered.place_of.Given as goal

abbrev pub invariant-loop-low : goal.invariant-loop-low
invariant-loop-low g l = record {
  in_order : l.low ≤ l.high;
  within : l.high ≤ length l.xs;
  below : list_all (λ y. is_lt (g.X.Ordered.order y l.x)) (take l.low l.xs) ≡ true;
  above : list_all (λ y. is_lt (g.X.Ordered.order l.x y)) (drop l.high l.xs) ≡ true;
}

abbrev pub decreases-loop-low : goal.decreases-loop-low
decreases-loop-low g l = l.high - l.low
