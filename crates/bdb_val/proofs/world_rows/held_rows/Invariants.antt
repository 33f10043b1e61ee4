use Rattle.std.proofs.Common.{◌≡◌, map}
use Rattle.bdb_val.specs.WorldReads.{held_row}
use Rattle.bdb_val.proofs.world_rows.held_rows.Given as goal

abbrev pub invariant-loop-row : goal.invariant-loop-row
invariant-loop-row l = l.held.items ≡ map held_row l.yielded
