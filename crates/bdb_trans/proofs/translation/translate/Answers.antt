use Rattle.std.proofs.Common.{◌∙◌, ap}
use Rattle.bdb_plan.specs.PlanOf.{plan_steps}
use Rattle.bdb_trans.proofs.PlanLemmas.{uses_only_set}
use Rattle.bdb_trans.proofs.translation.translate.Goals as goal

pub new-requires : goal.new-requires
new-requires c =
    uses_only_set c.args.catalog.now c.args.q.now c.len-items.result c.in_ok-steps.steps c.in_ok-take.take c.requires.fits c.requires.safe c.len-items.ensures
    (c.in_ok-steps.ensures ∙ ap (λ x. plan_steps x c.args.q.now) c.as_slice.ensures) c.in_ok-take.ensures
