use Rattle.std.proofs.Common.{◌≡◌, ◌≤◌, ◌-◌, true, not, length, take, drop}
use Rattle.std.specs.List.{list_all}
use Rattle.bdb_model.specs.Ends.{path_is_before}
use Rattle.bdb_model.proofs.ends.first_at.Given as goal

abbrev pub invariant-loop-low : goal.invariant-loop-low
invariant-loop-low l = record {
  in_order : l.low ≤ l.high;
  within : l.high ≤ length l.stmts;
  before : list_all (path_is_before l.path) (take l.low l.stmts) ≡ true;
  behind : list_all (λ x. not (path_is_before l.path x)) (drop l.high l.stmts) ≡ true;
}

abbrev pub decreases-loop-low : goal.decreases-loop-low
decreases-loop-low l = l.high - l.low
