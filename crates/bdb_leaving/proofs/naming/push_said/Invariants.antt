use Rattle.std.proofs.Common.{◌≡◌, ◌++◌}
use Rattle.bdb_leaving.specs.Naming.{said_by_world}
use Rattle.bdb_leaving.proofs.naming.push_said.Given as goal

abbrev pub invariant-loop-row : goal.invariant-loop-row
invariant-loop-row l = l.stmts ≡ l.fn.stmts ++ said_by_world l.path l.yielded
