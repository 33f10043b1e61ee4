use Rattle.std.proofs.Common.{rules, ◌≡◌, ◌∙◌, ap, sym, subst, [], true, IsPermutation}
use Rattle.bdb_plan.specs.PlanOf.{order_of}
use Rattle.bdb_trans.specs.Orders.{IsOrder}
use Rattle.bdb_trans.specs.Passing.{order_passes}
use Rattle.bdb_trans.proofs.FitLemmas.{written_order}
use Rattle.bdb_trans.proofs.PassingLemmas.{passing_order}
use Rattle.bdb_trans.proofs.choosing.order_to_run.Goals as goal

pub returns-then-len-lt2 : goal.returns-then-len-lt2
returns-then-len-lt2 c =
    let same : c.in_ok-written.written.items ≡ order_of c.args.q.now.items = search rules in
    subst (IsOrder c.args.q.now) (sym same) (written_order c.args.catalog.now c.args.q.now c.requires.fits)

pub returns-then-branch : goal.returns-then-branch
returns-then-branch c =
    let q = c.args.q.now in
    let order = c.in_ok-order.order.items in
    let same : IsPermutation (order_of q.items) order = subst (λ xs. IsPermutation xs order) (c.as_slice-2.ensures.value ∙ c.in_ok-written.ensures ∙ ap order_of c.as_slice.ensures) c.in_ok-order.ensures in
    let passes : order_passes q [] order ≡ true = search rules in
    passing_order c.args.catalog.now q order c.requires.fits same passes

pub returns : goal.returns
returns c =
    let same : c.in_ok-written.written.items ≡ order_of c.args.q.now.items = search rules in
    subst (IsOrder c.args.q.now) (sym same) (written_order c.args.catalog.now c.args.q.now c.requires.fits)
