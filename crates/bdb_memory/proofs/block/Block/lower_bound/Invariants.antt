use Rattle.std.proofs.Common.{◌≡◌, ◌≤◌, ◌-◌, ◌+◌, length, take, drop}
use Rattle.bdb_memory.specs.Entries.{AreBelow, NoneBelow}
use Rattle.bdb_memory.proofs.block.Block.lower_bound.Given as goal

abbrev pub invariant-loop-step : goal.invariant-loop-step
invariant-loop-step l = record {
  within : l.at ≤ length l.self;
  below : AreBelow l.probe (take l.at l.self);
  above : l.step ≡ 0 → NoneBelow l.probe (drop l.at l.self);
}

abbrev pub decreases-loop-step : goal.decreases-loop-step
decreases-loop-step l = length l.self - l.at + l.step
