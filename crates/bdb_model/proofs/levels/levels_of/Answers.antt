use Rattle.std.proofs.Common.{◌-◌, length, take, drop}
use Rattle.std.proofs.lemmas.List.{take_rest}
use Rattle.bdb_base.specs.Bases.{key_lengths}
use Rattle.bdb_model.proofs.LevelLemmas.{last_level, next_level}
use Rattle.bdb_model.proofs.levels.levels_of.Goals as goal

pub loop-rest-preserved : goal.loop-rest-preserved
loop-rest-preserved c =
    let w = c.loop-rest.rest.now in
    next_level (key_lengths c.args.rels.now) c.args.stmts.now c.at_path.result.now c.args.path.now w (take (length w - 1) (drop 1 w)) c.loop-rest.levels.items c.push_if_any.new.levels.items
    c.in-len1-up.len_at_least (take_rest w 1) c.at_path.ensures c.loop-rest.invariant c.in_ok-push_if_any.ensures

pub returns : goal.returns
returns c =
    last_level (key_lengths c.args.rels.now) c.args.stmts.now c.at_path-2.result.now c.args.path.now c.loop-rest.rest.now c.loop-rest.levels.items c.push_if_any-2.new.levels.items
    c.in_default.len_below c.at_path-2.ensures c.loop-rest.invariant c.in_ok-push_if_any-2.ensures
