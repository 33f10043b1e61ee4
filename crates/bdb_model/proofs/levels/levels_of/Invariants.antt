use Rattle.std.proofs.Common.{◌≡◌, ◌++◌, length}
use Rattle.bdb_base.specs.Bases.{key_lengths}
use Rattle.bdb_model.specs.Levels.{levels_of}
use Rattle.bdb_model.proofs.levels.levels_of.Given as goal

-- the levels so far are followed by those of the rest of the path
abbrev pub invariant-loop-rest : goal.invariant-loop-rest
invariant-loop-rest l = levels_of (key_lengths l.rels) l.stmts l.path ≡ l.levels.items ++ levels_of (key_lengths l.rels) l.stmts l.rest

abbrev pub decreases-loop-rest : goal.decreases-loop-rest
decreases-loop-rest l = length l.rest
