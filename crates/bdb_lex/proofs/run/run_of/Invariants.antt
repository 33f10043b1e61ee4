use Rattle.std.proofs.Common.{◌≤◌, ◌-◌, length}
use Rattle.bdb_lex.specs.Runs.{Runs}
use Rattle.bdb_lex.proofs.run.run_of.Given as goal

abbrev pub invariant-loop-byte : goal.invariant-loop-byte
invariant-loop-byte l = (l.run.len ≤ length l.bytes) × Runs l.fn.mode l.fn.holds l.bytes l.run

abbrev pub decreases-loop-byte : goal.decreases-loop-byte
decreases-loop-byte l = length l.bytes - l.run.len
