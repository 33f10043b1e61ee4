use Rattle.std.proofs.Common.{◌∙◌, ◌≤◌, length, ap, arith}
use Rattle.std.specs.List.{flat_map}
use Rattle.std.proofs.lemmas.List.{take_all}
use Rattle.bdb_base.specs.Bases.{key_lengths}
use Rattle.bdb_base.specs.WorldRows.{tuples_of}
use Rattle.bdb_model.specs.Levels.{rows_by, levels_of, level_of}
use Rattle.bdb_model.proofs.LevelLemmas.{world_by_levels}
use Rattle.bdb_model.proofs.rows.world_from.Goals as goal

pub returns : goal.returns
returns c =
    let same = ap length (c.as_slice-tuple-items.ensures ∙ c.in_ok-tuples.ensures) in
    let past : length (tuples_of c.args.stmts.now) ≤ c.loop-tuple.tuple-index = omega arith in
    c.loop-tuple.invariant
    ∙ ap (flat_map (rows_by (key_lengths c.args.rels.now) (levels_of (key_lengths c.args.rels.now) c.args.stmts.now c.args.path.now) (level_of (key_lengths c.args.rels.now) c.args.stmts.now c.args.path.now)))
    (take_all c.loop-tuple.tuple-index (tuples_of c.args.stmts.now) past)
    ∙ world_by_levels (key_lengths c.args.rels.now) c.args.stmts.now c.args.path.now
