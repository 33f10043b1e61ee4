use Rattle.std.proofs.Common.{◌≡◌, ◌<◌, ◌-◌, ◌+◌, true, false, length, slice_index_or, [], suc}
use Rattle.bdb_memory.specs.Blocks.{starts_within}
use Rattle.bdb_memory.proofs.finding.block_for.Given as goal

abbrev pub invariant-loop-step : goal.invariant-loop-step
invariant-loop-step l = record {
  block : l.at < length l.blocks;
  starts : 0 < l.at → starts_within l.probe (slice_index_or l.blocks l.at []) ≡ true;
  ends : l.step ≡ 0 → suc l.at < length l.blocks → starts_within l.probe (slice_index_or l.blocks (suc l.at) []) ≡ false;
}

abbrev pub decreases-loop-step : goal.decreases-loop-step
decreases-loop-step l = length l.blocks - l.at + l.step
