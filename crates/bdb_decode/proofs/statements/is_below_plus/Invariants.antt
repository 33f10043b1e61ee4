use Rattle.std.proofs.Common.{◌≡◌, length}
use Rattle.bdb_base.specs.Bases.{key_lengths}
use Rattle.bdb_decode.specs.Statements.{below_plus}
use Rattle.bdb_decode.proofs.statements.is_below_plus.Given as goal

abbrev pub decreases-loop-rest : goal.decreases-loop-rest
decreases-loop-rest l = length l.rest

abbrev pub invariant-loop-rest : goal.invariant-loop-rest
invariant-loop-rest l = below_plus (key_lengths l.catalog.rels) l.stmt l.fn.others ≡ below_plus (key_lengths l.catalog.rels) l.stmt l.rest
