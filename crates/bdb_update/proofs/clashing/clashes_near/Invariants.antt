use Rattle.std.proofs.Common.{◌≡◌, length}
use Rattle.bdb_base.specs.Bases.{key_lengths}
use Rattle.bdb_update.specs.Clashing.{clashes_near}
use Rattle.bdb_update.proofs.clashing.clashes_near.Given as goal

abbrev pub decreases-loop-rest : goal.decreases-loop-rest
decreases-loop-rest l = length l.rest

abbrev pub invariant-loop-rest : goal.invariant-loop-rest
invariant-loop-rest l = clashes_near (key_lengths l.rels) l.path l.x l.fn.others ≡ clashes_near (key_lengths l.rels) l.path l.x l.rest
