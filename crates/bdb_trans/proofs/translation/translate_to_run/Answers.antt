use Rattle.std.proofs.Common.{◌≡◌, rules, []}
use Rattle.bdb_plan.specs.PlanOf.{steps_from}
use Rattle.bdb_trans.proofs.PlanLemmas.{order_uses_only_set}
use Rattle.bdb_trans.proofs.translation.translate_to_run.Goals as goal

pub new-requires : goal.new-requires
new-requires c =
    let steps : c.in_ok-steps.steps ≡ steps_from c.args.catalog.now.rels c.args.q.now [] c.in_ok-order.order.items = search rules in
    order_uses_only_set c.args.catalog.now c.args.q.now c.in_ok-order.order.items c.len-items.result c.in_ok-steps.steps c.in_ok-take.take c.requires.fits c.requires.safe c.in_ok-order.ensures c.len-items.ensures
    steps c.in_ok-take.ensures
