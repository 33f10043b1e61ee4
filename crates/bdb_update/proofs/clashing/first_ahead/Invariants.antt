use Rattle.std.proofs.Common.{◌≡◌, length}
use Rattle.bdb_base.specs.Bases.{key_lengths}
use Rattle.bdb_update.specs.Clashing.{first_ahead}
use Rattle.bdb_update.proofs.clashing.first_ahead.Given as goal

abbrev pub decreases-loop-rest : goal.decreases-loop-rest
decreases-loop-rest l = length l.rest

abbrev pub invariant-loop-rest : goal.invariant-loop-rest
invariant-loop-rest l = first_ahead (key_lengths l.rels) l.stmts l.path ≡ first_ahead (key_lengths l.rels) l.rest l.path
