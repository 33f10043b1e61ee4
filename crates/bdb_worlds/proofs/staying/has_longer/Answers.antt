use Rattle.std.proofs.Common.{◌∙◌, refl, rules, true, false, Some, None}
use Rattle.bdb_worlds.proofs.StayLemmas.{next_edge_at, depth_then, longer_found, longer_more, longer_ends}
use Rattle.bdb_worlds.proofs.staying.has_longer.Goals as goal

pub returns-in-Ok-None-clause-longer : goal.returns-in-Ok-None-clause-longer
returns-in-Ok-None-clause-longer g c =
    let t = (g.K.Keeper.seen c.args.keeper.now).kept in
    let none = next_edge_at t (g.K.Keeper.seen c.loop.keeper).kept c.args.wid c.loop.low c.in-Ok-None.field-0 None c.loop.invariant.kept c.in-Ok-None.field-0-is c.in-Ok-None.ensures.edge in
    longer_ends t c.args.wid c.args.deeper c.loop.low c.loop.invariant.at none

pub returns-in-Ok-true-clause-longer : goal.returns-in-Ok-true-clause-longer
returns-in-Ok-true-clause-longer g c =
    let t = (g.K.Keeper.seen c.args.keeper.now).kept in
    let next = next_edge_at t (g.K.Keeper.seen c.loop.keeper).kept c.args.wid c.loop.low c.in-Ok-Some.field-0 (Some c.in-Ok-Some.edge) c.loop.invariant.kept c.in-Ok-Some.field-0-is c.in-Ok-Some.ensures.edge in
    let deep = depth_then t (g.K.Keeper.seen c.next_edge.new.keeper).kept c.in-Ok-Some.edge.1 c.args.deeper c.in-Ok-true.field-0 true (c.in-Ok-Some.ensures.kept ∙ c.loop.invariant.kept) c.in-Ok-true.field-0-test c.in-Ok-true.ensures.depth in
    longer_found t c.args.wid c.args.deeper c.loop.low c.loop.invariant.at c.in-Ok-Some.edge next deep

pub loop-preserved : goal.loop-preserved
loop-preserved g c =
    let t = (g.K.Keeper.seen c.args.keeper.now).kept in
    let next = next_edge_at t (g.K.Keeper.seen c.loop.keeper).kept c.args.wid c.loop.low c.in-Ok-Some.field-0 (Some c.in-Ok-Some.edge) c.loop.invariant.kept c.in-Ok-Some.field-0-is c.in-Ok-Some.ensures.edge in
    let deep = depth_then t (g.K.Keeper.seen c.next_edge.new.keeper).kept c.in-Ok-Some.edge.1 c.args.deeper c.in-Ok-false.field-0 false (c.in-Ok-Some.ensures.kept ∙ c.loop.invariant.kept) c.in-Ok-false.field-0-test c.in-Ok-false.ensures.depth in
    record {
      at = longer_more t c.args.wid c.args.deeper c.loop.low c.loop.invariant.at c.in-Ok-Some.edge _ refl next deep;
      kept = search rules;
      writes = search rules;
      counts = search rules;
      goes_on = search rules;
    }
