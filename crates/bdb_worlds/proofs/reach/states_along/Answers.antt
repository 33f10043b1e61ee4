use Rattle.std.proofs.Common.{◌∙◌, ap, arith, length, rules, Some, None}
use Rattle.bdb_names.proofs.Ends.{length_more}
use Rattle.bdb_worlds.proofs.ShrinkLemmas.{deep_at, deep_reached, deep_ends, collected_more}
use Rattle.bdb_worlds.proofs.reach.states_along.Goals as goal

pub returns-in-Ok-None-clause-found : goal.returns-in-Ok-None-clause-found
returns-in-Ok-None-clause-found g c =
    let t = (g.K.Keeper.seen c.args.keeper.now).kept in
    let none = deep_at t (g.K.Keeper.seen c.loop-len.keeper).kept c.loop-len.wid _ _ c.in-Ok-None.field-0 None c.loop-len.invariant.kept c.in-Ok-None.field-0-is c.in-Ok-None.ensures.found in
    deep_ends t c.args.path.now c.loop-len.len c.loop-len.wid c.requires.apart c.loop-len-test.true c.loop-len.invariant.at none

pub loop-len-preserved : goal.loop-len-preserved
loop-len-preserved g c =
    let t = (g.K.Keeper.seen c.args.keeper.now).kept in
    let target = c.in-Ok-Some.target in
    let leads = deep_at t (g.K.Keeper.seen c.loop-len.keeper).kept c.loop-len.wid _ _ c.in-Ok-Some.field-0 (Some target) c.loop-len.invariant.kept c.in-Ok-Some.field-0-is c.in-Ok-Some.ensures.found in
    let reached = deep_reached t c.args.path.now c.loop-len.len c.loop-len.wid c.requires.apart c.loop-len-test.true c.loop-len.invariant.at target leads in
    let count = ap length c.in-Ok.ensures.items ∙ length_more c.loop-len.numbers.items target in
    let done = c.loop-len.invariant.done in
    record {
      at = reached;
      numbers = collected_more t c.args.path.now c.loop-len.numbers.items c.push.new.self.items c.loop-len.len target done c.in-Ok.ensures.items c.loop-len.invariant.numbers reached;
      done = omega arith;
      kept = search rules;
      writes = search rules;
      counts = search rules;
      goes_on = search rules;
    }
