use Rattle.std.proofs.Common.{◌≤◌, subst, sym, arith, rules}
use Rattle.bdb_entries.specs.Reading.{IsBare}
use Rattle.bdb_entries.proofs.FormatLemmas.{all_bare, bare_too}
use Rattle.bdb_entries.proofs.ReadLemmas.{past}
use Rattle.bdb_entries.proofs.bare.others_are_bare.Goals as goal

pub returns-in-Ok-false-clause-bare : goal.returns-in-Ok-false-clause-bare
returns-in-Ok-false-clause-bare g c =
    let low : 12 ≤ c.loop-tab.tab = search rules in
    λ h. past _ _ c.in-Ok-false.field-0 c.in-Ok-false.field-0-test c.in-Ok-false.ensures.bare
    (subst (λ t. IsBare t c.loop-tab.tab) (sym c.loop-tab.invariant.kept) (bare_too (g.K.Keeper.seen c.args.keeper.now).kept c.loop-tab.tab low h))

pub returns-clause-bare : goal.returns-clause-bare
returns-clause-bare g c =
    all_bare (g.K.Keeper.seen c.args.keeper.now).kept c.requires.tables (λ n low high. c.loop-tab.invariant.read n low (omega (arith, high, c.loop-tab-test.false)))
