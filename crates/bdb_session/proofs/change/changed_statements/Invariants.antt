use Rattle.std.proofs.Common.{◌≡◌, map, take}
use Rattle.bdb_base.specs.Changes.{changed_statement}
use Rattle.bdb_session.proofs.change.changed_statements.Given as goal

abbrev pub invariant-loop-stmt : goal.invariant-loop-stmt
invariant-loop-stmt l = l.next ≡ map (changed_statement l.sets) (take l.stmt-index l.stmts)
