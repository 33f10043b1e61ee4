use Rattle.std.proofs.Common.{◌∙◌, ap, sym, subst}
use Rattle.std.specs.Option.{option_copied}
use Rattle.bdb_tables.specs.declared.tab.TabError.TheVariants.{Fault}
use Rattle.bdb_tables.proofs.Loops.{goes_then}
use Rattle.bdb_update.specs.Weighing.{Weighs}
use Rattle.bdb_update.proofs.CallLemmas.{quiet_read}
use Rattle.bdb_update.proofs.ChangingLemmas.{nothing_changes, nothing_keeps, nothing_through, change_clashes, may_replace_now, changed, changed_keeps, changed_through}
use Rattle.bdb_update.proofs.changing.change_statements.Goals as goal

pub returns-in-None-clause-changed : goal.returns-in-None-clause-changed
returns-in-None-clause-changed g c =
    nothing_changes (g.K.Keeper.seen c.args.keeper.now) c.args.counts.now c.args.path.now c.args.gone.now c.args.come.now (sym c.first.ensures.value ∙ ap option_copied c.in-None.is)

pub returns-in-Ok-Clashes-clause-changed : goal.returns-in-Ok-Clashes-clause-changed
returns-in-Ok-Clashes-clause-changed g c =
    let old = g.K.Keeper.seen c.args.keeper.now in
    let mid = g.K.Keeper.seen c.weigh.new.keeper in
    let x = c.in-Some.first.now in
    change_clashes old mid c.args.counts.now c.args.path.now c.args.gone.now c.args.come.now x (sym c.first.ensures.value ∙ ap option_copied c.in-Some.is)
    (quiet_read old mid c.in-Ok-Clashes.field-0 Fault c.in-Ok-Clashes.ensures.read) c.in-Ok-Clashes.least
    (subst (Weighs old.kept c.args.counts.now x.path c.args.gone.now c.args.come.now) c.in-Ok-Clashes.field-0-is c.in-Ok-Clashes.ensures.weighed)

pub replace-requires-clause-base : goal.replace-requires-clause-base
replace-requires-clause-base g c =
    let old = g.K.Keeper.seen c.args.keeper.now in
    let mid = g.K.Keeper.seen c.weigh.new.keeper in
    let x = c.in-Some.first.now in
    may_replace_now old mid c.args.counts.now c.args.path.now c.args.gone.now c.args.come.now x (sym c.first.ensures.value ∙ ap option_copied c.in-Some.is)
    (quiet_read old mid c.in-Ok-Fits.field-0 Fault c.in-Ok-Fits.ensures.read)
    (subst (Weighs old.kept c.args.counts.now x.path c.args.gone.now c.args.come.now) c.in-Ok-Fits.field-0-is c.in-Ok-Fits.ensures.weighed) c.requires.base

pub returns-in-Ok-clause-changed : goal.returns-in-Ok-clause-changed
returns-in-Ok-clause-changed g c =
    let old = g.K.Keeper.seen c.args.keeper.now in
    let mid = g.K.Keeper.seen c.weigh.new.keeper in
    let new = g.K.Keeper.seen c.replace.new.keeper in
    let x = c.in-Some.first.now in
    let q = quiet_read old mid c.in-Ok-Fits.field-0 Fault c.in-Ok-Fits.ensures.read in
    changed old mid c.args.counts.now c.args.path.now c.args.gone.now c.args.come.now x (sym c.first.ensures.value ∙ ap option_copied c.in-Some.is) q new c.in-Ok.next
    (subst (Weighs old.kept c.args.counts.now x.path c.args.gone.now c.args.come.now) c.in-Ok-Fits.field-0-is c.in-Ok-Fits.ensures.weighed) c.in-Ok.ensures.replaced
    (goes_then old mid new q.goes c.in-Ok.ensures.changing.steps.ok)

pub returns-in-None-clause-writes : goal.returns-in-None-clause-writes
returns-in-None-clause-writes g c =
    nothing_through (g.K.Keeper.seen c.args.keeper.now) c.args.counts.now c.args.path.now c.args.gone.now c.args.come.now (sym c.first.ensures.value ∙ ap option_copied c.in-None.is)

pub returns-in-Ok-clause-writes : goal.returns-in-Ok-clause-writes
returns-in-Ok-clause-writes g c =
    let old = g.K.Keeper.seen c.args.keeper.now in
    let mid = g.K.Keeper.seen c.weigh.new.keeper in
    let x = c.in-Some.first.now in
    changed_through old mid (g.K.Keeper.seen c.replace.new.keeper) c.args.counts.now c.args.path.now c.args.gone.now c.args.come.now x (sym c.first.ensures.value ∙ ap option_copied c.in-Some.is)
    (quiet_read old mid c.in-Ok-Fits.field-0 Fault c.in-Ok-Fits.ensures.read)
    (subst (Weighs old.kept c.args.counts.now x.path c.args.gone.now c.args.come.now) c.in-Ok-Fits.field-0-is c.in-Ok-Fits.ensures.weighed) c.in-Ok.ensures.steps

pub returns-in-None-clause-keeps : goal.returns-in-None-clause-keeps
returns-in-None-clause-keeps g c =
    nothing_keeps (g.K.Keeper.seen c.args.keeper.now) c.args.counts.now c.args.path.now c.args.gone.now c.args.come.now (sym c.first.ensures.value ∙ ap option_copied c.in-None.is)

pub returns-in-Ok-clause-keeps : goal.returns-in-Ok-clause-keeps
returns-in-Ok-clause-keeps g c =
    let old = g.K.Keeper.seen c.args.keeper.now in
    let mid = g.K.Keeper.seen c.weigh.new.keeper in
    let x = c.in-Some.first.now in
    changed_keeps old mid (g.K.Keeper.seen c.replace.new.keeper) c.args.counts.now c.args.path.now c.args.gone.now c.args.come.now x (sym c.first.ensures.value ∙ ap option_copied c.in-Some.is)
    (quiet_read old mid c.in-Ok-Fits.field-0 Fault c.in-Ok-Fits.ensures.read)
    (subst (Weighs old.kept c.args.counts.now x.path c.args.gone.now c.args.come.now) c.in-Ok-Fits.field-0-is c.in-Ok-Fits.ensures.weighed) c.in-Ok.ensures.keeps
