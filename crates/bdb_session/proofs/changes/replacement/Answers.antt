use Rattle.std.proofs.Common.{◌∙◌, List, ap, subst, sym}
use Rattle.bdb_base.specs.Order.{statement_cmp}
use Rattle.bdb_base.specs.OrderLemmas.{statement_exact}
use Rattle.bdb_base.specs.SortedSet.{ascending}
use Rattle.bdb_base.specs.declared.kinds.Stmt.{Stmt}
use Rattle.bdb_base.proofs.SetLemmas.{set_is_ascending}
use Rattle.bdb_session.specs.Noting.{SomeMayMeetEach}
use Rattle.bdb_session.proofs.NotingLemmas.{replaced_by, some_set_may_meet}
use Rattle.bdb_session.proofs.changes.replacement.Goals as goal

pub new_among-requires-clause-base : goal.new_among-requires-clause-base
new_among-requires-clause-base g c =
    let t = (g.K.Keeper.seen c.args.keeper.now).kept in
    subst (λ (xs : List Stmt). SomeMayMeetEach t c.args.counts.now xs) (sym (c.as_slice.ensures ∙ c.in-Ok.ensures)) (some_set_may_meet t c.args.counts.now c.args.come.now c.requires.base)

pub missing_from-requires : goal.missing_from-requires
missing_from-requires g c = ap (ascending statement_cmp) (c.as_slice-2.ensures ∙ c.in-Ok.ensures) ∙ set_is_ascending statement_exact c.args.come.now

pub returns-in-Ok-missing_from-clause-change : goal.returns-in-Ok-missing_from-clause-change
returns-in-Ok-missing_from-clause-change g c =
    replaced_by (g.K.Keeper.seen c.args.keeper.now).kept c.args.counts.now c.args.gone.now c.args.come.now c.as_slice.result.now c.as_slice-2.result.now c.in-Ok-missing_from.gone
    c.in-Ok-new_among.fresh c.made_of.result (c.as_slice.ensures ∙ c.in-Ok.ensures) (c.as_slice-2.ensures ∙ c.in-Ok.ensures) c.in-Ok-new_among.ensures.new c.in-Ok-missing_from.ensures
    c.made_of.ensures
