use Rattle.std.proofs.Common.{◌≡◌, length, take, ◌-◌, ◌≤◌}
use Rattle.std.specs.Io.KnownBytes.{Appends}
use Rattle.bdb_io.proofs.adapters.WriteSinkSink.write_all.Given as goal

abbrev pub invariant-loop-from : goal.invariant-loop-from
invariant-loop-from g l = (l.from ≤ length l.bytes) × Appends (g.W.Write.contents l.fn.self.writer) (g.W.Write.contents l.self.writer) (take l.from l.bytes) × (l.self.faults ≡ l.fn.self.faults)

abbrev pub decreases-loop-from : goal.decreases-loop-from
decreases-loop-from g l = length l.bytes - l.from
