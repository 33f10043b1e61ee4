use Rattle.std.proofs.Common.{◌≡◌, []}
use Rattle.bdb_base.specs.Changes.{with_statements}
use Rattle.bdb_update.specs.Reached.{said_at}
use Rattle.bdb_update.proofs.reached.stated_at.Given as goal

abbrev pub invariant-loop-row : goal.invariant-loop-row
invariant-loop-row l = l.stmts ≡ with_statements [] (said_at l.path l.yielded)
