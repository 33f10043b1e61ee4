use Rattle.std.proofs.Common.{◌≡◌, ◌≤◌, ◌-◌, true, length, take, drop}
use Rattle.std.specs.List.{list_all}
use Rattle.std.specs.Ordering.{is_lt}
use Rattle.bdb_base.specs.Order.{path_cmp}
use Rattle.bdb_paths.proofs.places.place_of_users.Given as goal

abbrev pub invariant-loop-low : goal.invariant-loop-low
invariant-loop-low l = record {
  in_order : l.low ≤ l.high;
  within : l.high ≤ length l.paths;
  below : list_all (λ y. is_lt (path_cmp y l.users)) (take l.low l.paths) ≡ true;
  above : list_all (λ y. is_lt (path_cmp l.users y)) (drop l.high l.paths) ≡ true;
}

abbrev pub decreases-loop-low : goal.decreases-loop-low
decreases-loop-low l = l.high - l.low
