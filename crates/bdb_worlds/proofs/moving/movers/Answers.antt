use Rattle.std.proofs.Common.{◌≡◌, sym, ap, ◌∙◌, rules, ◌≤◌, ◌<◌, length, refl, slice_get, Some, None}
use Rattle.bdb_worlds.proofs.StepLemmas.{get_at, child_at, visit_at, searching_from, searching_child, searching_next, searching_ends}
use Rattle.bdb_worlds.proofs.moving.movers.Goals as goal

pub loop-init : goal.loop-init
loop-init g c = record {
  at = searching_from (g.K.Keeper.seen c.args.keeper.now).kept c.args.start c.args.uid c.args.from _ _ c.in-Ok.ensures c.new-met.ensures.items;
  kept = search rules;
  writes = search rules;
  counts = search rules;
  goes_on = search rules;
}

pub returns-then-at-len-clause-found : goal.returns-then-at-len-clause-found
returns-then-at-len-clause-found g c =
    let l : length c.loop.sources.items ≤ c.loop.at = search rules in
    searching_ends (g.K.Keeper.seen c.args.keeper.now).kept c.args.start c.args.uid c.args.from _ _ c.loop.at c.loop.low l c.loop.invariant.at

pub loop-preserved-in-Ok-Some : goal.loop-preserved-in-Ok-Some
loop-preserved-in-Ok-Some g c =
    let t = (g.K.Keeper.seen c.args.keeper.now).kept in
    let l : c.loop.at < length c.loop.sources.items = search rules in
    let here : slice_get c.loop.sources.items c.loop.at ≡ Some c.index.result.now = get_at _ _ _ l ∙ ap Some (sym c.index.ensures) in
    let child = child_at t (g.K.Keeper.seen c.loop.keeper).kept c.index.result.now c.loop.low c.in-Ok-Some.field-0 (Some c.in-Ok-Some.child) c.loop.invariant.kept c.in-Ok-Some.field-0-is c.in-Ok-Some.ensures.child in
    let visit = visit_at t (g.K.Keeper.seen c.next_child.new.keeper).kept c.in-Ok-Some.child c.args.uid c.args.from _ _ _ _ (c.in-Ok-Some.ensures.kept ∙ c.loop.invariant.kept) c.in-Ok-visit.ensures.visit in
    record {
      at = searching_child t c.args.start c.args.uid c.args.from _ _ c.loop.at c.loop.low c.index.result.now here c.loop.invariant.at c.in-Ok-Some.child _ _ _ refl child visit;
      kept = search rules;
      writes = search rules;
      counts = search rules;
      goes_on = search rules;
    }

pub loop-preserved : goal.loop-preserved
loop-preserved g c =
    let t = (g.K.Keeper.seen c.args.keeper.now).kept in
    let l : c.loop.at < length c.loop.sources.items = search rules in
    let here : slice_get c.loop.sources.items c.loop.at ≡ Some c.index.result.now = get_at _ _ _ l ∙ ap Some (sym c.index.ensures) in
    let none = child_at t (g.K.Keeper.seen c.loop.keeper).kept c.index.result.now c.loop.low c.in-Ok-None.field-0 None c.loop.invariant.kept c.in-Ok-None.field-0-is c.in-Ok-None.ensures.child in
    record {
      at = searching_next t c.args.start c.args.uid c.args.from _ _ c.loop.at c.loop.low c.index.result.now here c.loop.invariant.at _ refl none;
      kept = search rules;
      writes = search rules;
      counts = search rules;
      goes_on = search rules;
    }
