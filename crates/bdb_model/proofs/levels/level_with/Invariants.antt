use Rattle.std.proofs.Common.{◌≡◌, drop}
use Rattle.bdb_base.specs.Bases.{key_lengths}
use Rattle.bdb_model.specs.Levels.{no_level, with_all}
use Rattle.bdb_model.proofs.levels.level_with.Given as goal

-- the statements to come make of the level so far the whole level
abbrev pub invariant-loop-x : goal.invariant-loop-x
invariant-loop-x l = with_all (key_lengths l.rels) no_level l.stmts ≡ with_all (key_lengths l.rels) l.level (drop l.x-index l.stmts)
