use Rattle.std.proofs.Common.{◌∙◌, ap, []}
use Rattle.bdb_plan.specs.PlanOf.{plan_steps, steps_from, order_of}
use Rattle.bdb_trans.proofs.translation.plan_steps.Goals as goal

pub returns : goal.returns
unfolding plan_steps
returns c =
    let rels = c.args.rels.now in
    let q = c.args.q.now in
    c.in_ok-steps.ensures ∙ ap (steps_from rels q []) (c.as_slice-2.ensures.value ∙ c.in_ok-order.ensures ∙ ap order_of c.as_slice.ensures)
