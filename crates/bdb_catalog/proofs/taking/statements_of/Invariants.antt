use Rattle.std.proofs.Common.{◌≡◌}
use Rattle.bdb_catalog.specs.Taking.{statements_of}
use Rattle.bdb_catalog.proofs.taking.statements_of.Given as goal

abbrev pub invariant-loop-tuple : goal.invariant-loop-tuple
invariant-loop-tuple l = l.stmts ≡ statements_of l.path l.sign l.conds l.yielded
