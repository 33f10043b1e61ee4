use Rattle.std.proofs.Common.{◌∙◌, [], ap, refl, sym}
use Rattle.bdb_base.specs.Changes.{with_statements}
use Rattle.bdb_base.specs.Order.{statement_cmp}
use Rattle.bdb_base.specs.SortedSet.{ascending}
use Rattle.bdb_base.proofs.UpdateLemmas.{with_keeps_order}
use Rattle.bdb_update.specs.Reached.{said_at, said_of}
use Rattle.bdb_update.proofs.ReachedLemmas.{said_more}
use Rattle.bdb_update.proofs.reached.stated_at.Goals as goal

pub put_said-requires : goal.put_said-requires
put_said-requires c = ap (ascending statement_cmp) c.loop-row.invariant ∙ with_keeps_order [] (said_at c.args.path.now c.loop-row.yielded) refl

pub loop-row-preserved : goal.loop-row-preserved
loop-row-preserved c =
    c.in_ok-put_said.ensures ∙ ap (λ xs. with_statements xs (said_of c.args.path.now c.in-Some.row)) c.loop-row.invariant
    ∙ sym (said_more c.args.path.now c.loop-row.yielded c.in-Some.row)

pub returns-clause-sorted : goal.returns-clause-sorted
returns-clause-sorted c = ap (ascending statement_cmp) c.loop-row.invariant ∙ with_keeps_order [] (said_at c.args.path.now c.loop-row.yielded) refl
