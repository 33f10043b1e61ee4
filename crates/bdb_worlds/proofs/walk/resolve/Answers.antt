use Rattle.std.proofs.Common.{sym, ap, ◌∙◌, rules, Some, None}
use Rattle.bdb_tables.specs.InUse.{edge_codec}
use Rattle.bdb_tables.proofs.Numbered.{at_old}
use Rattle.bdb_worlds.proofs.WalkLemmas.{rises_more, step_leads, step_there}
use Rattle.bdb_worlds.proofs.walk.resolve.Goals as goal

pub unreachable-requires : goal.unreachable-requires
unreachable-requires g c =
    let kept = (g.K.Keeper.seen c.args.keeper.now).kept in
    let path = c.args.path.now in
    let k = c.loop-uid.uid-index in
    step_there kept path k c.loop-uid.wid c.requires.apart c.loop-uid-test.true c.loop-uid.invariant.at c.requires.states
    (at_old edge_codec kept (g.K.Keeper.seen c.loop-uid.keeper).kept _ c.in-Ok-None.field-0 None c.loop-uid.invariant.kept c.in-Ok-None.field-0-is c.in-Ok-None.ensures.found)

pub loop-uid-preserved : goal.loop-uid-preserved
loop-uid-preserved g c =
    let kept = (g.K.Keeper.seen c.args.keeper.now).kept in
    let path = c.args.path.now in
    let k = c.loop-uid.uid-index in
    let leads = step_leads kept path k c.loop-uid.wid c.requires.apart c.loop-uid-test.true c.loop-uid.invariant.at c.in-Ok-Some.target
    (at_old edge_codec kept (g.K.Keeper.seen c.loop-uid.keeper).kept _ c.in-Ok-Some.field-0 (Some c.in-Ok-Some.target) c.loop-uid.invariant.kept c.in-Ok-Some.field-0-is c.in-Ok-Some.ensures.found) in
    record {
      at = λ s h own. leads s h own ∙ ap Some (sym c.in-Ok-Some.target-is);
      kept = search rules;
      reads = rises_more k (g.K.Keeper.seen c.args.keeper.now).reads (g.K.Keeper.seen c.loop-uid.keeper).reads _ c.loop-uid.invariant.reads c.in-Ok-Some.ensures.reads;
      writes = search rules;
      counts = search rules;
      goes_on = search rules;
    }
