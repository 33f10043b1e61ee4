use Rattle.std.proofs.Common.{◌≡◌, take}
use Rattle.std.specs.List.{flat_map}
use Rattle.bdb_base.specs.Bases.{key_lengths}
use Rattle.bdb_base.specs.WorldRows.{tuples_of}
use Rattle.bdb_model.specs.Levels.{rows_by, levels_of, level_of}
use Rattle.bdb_model.proofs.rows.world_from.Given as goal

abbrev pub invariant-loop-tuple : goal.invariant-loop-tuple
invariant-loop-tuple l = l.held ≡ flat_map (rows_by (key_lengths l.rels) (levels_of (key_lengths l.rels) l.stmts l.path) (level_of (key_lengths l.rels) l.stmts l.path)) (take l.tuple-index (tuples_of l.stmts))
