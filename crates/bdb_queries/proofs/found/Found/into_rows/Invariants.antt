use Rattle.std.proofs.Common.{◌≡◌}
use Rattle.bdb_queries.proofs.found.Found.into_rows.Given as goal

abbrev pub invariant-loop-row : goal.invariant-loop-row
invariant-loop-row l = l.all ≡ l.yielded
