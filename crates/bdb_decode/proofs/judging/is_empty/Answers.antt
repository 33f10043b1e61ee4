use Rattle.std.proofs.Common.{sym, subst, arith}
use Rattle.bdb_entries.specs.Reading.{IsBare}
use Rattle.bdb_entries.proofs.ReadLemmas.{past}
use Rattle.bdb_decode.proofs.JudgeLemmas.{all_empty, empty_bare}
use Rattle.bdb_decode.proofs.judging.is_empty.Goals as goal

pub returns-in-Ok-false-clause-empty : goal.returns-in-Ok-false-clause-empty
returns-in-Ok-false-clause-empty g c = λ e.
    past _ _ c.in-Ok-false.field-0 c.in-Ok-false.field-0-test c.in-Ok-false.ensures.bare (empty_bare (g.K.Keeper.seen c.args.keeper.now).kept 1 e)

pub returns-in-Ok-false-is_bare-clause-empty : goal.returns-in-Ok-false-is_bare-clause-empty
returns-in-Ok-false-is_bare-clause-empty g c =
    let r = c.in-Ok-false-is_bare in
    λ e. past _ _ r.field-0 r.field-0-test r.ensures.bare
    (subst (λ u. IsBare u c.loop-tab.tab) (sym c.loop-tab.invariant.kept) (empty_bare (g.K.Keeper.seen c.args.keeper.now).kept c.loop-tab.tab e))

pub returns-clause-empty : goal.returns-clause-empty
returns-clause-empty g c =
    all_empty (g.K.Keeper.seen c.args.keeper.now).kept c.in-Ok-true.ensures.tables (λ n low high. c.loop-tab.invariant.read n low (omega (arith, high, c.loop-tab-test.false)))
