use Rattle.std.proofs.Common.{◌≤◌, ◌-◌, length}
use Rattle.bdb_val.proofs.NumberedLemmas.{AreBelow, AreAbove}
use Rattle.bdb_val.proofs.numbered.mark_by_search.Given as goal

abbrev pub invariant-loop-low : goal.invariant-loop-low
invariant-loop-low l = record {
  in_order : l.low ≤ l.high;
  within : l.high ≤ length l.rows;
  below : AreBelow l.rows l.tid l.low;
  above : AreAbove l.rows l.tid l.high;
}

abbrev pub decreases-loop-low : goal.decreases-loop-low
decreases-loop-low l = l.high - l.low
