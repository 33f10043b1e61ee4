use Rattle.std.proofs.Common.{◌≡◌, length}
use Rattle.bdb_base.specs.Bases.{key_lengths}
use Rattle.bdb_decode.specs.Statements.{plus_climb}
use Rattle.bdb_decode.proofs.statements.plus_climb.Given as goal

abbrev pub decreases-loop-rest : goal.decreases-loop-rest
decreases-loop-rest l = length l.rest

abbrev pub invariant-loop-rest : goal.invariant-loop-rest
invariant-loop-rest l = plus_climb (key_lengths l.catalog.rels) l.fn.stmts ≡ plus_climb (key_lengths l.catalog.rels) l.rest
