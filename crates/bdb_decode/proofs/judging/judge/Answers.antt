use Rattle.std.proofs.Common.{subst}
use Rattle.bdb_entries.specs.Format.{IsFormatDamaged, TellsFormat}
use Rattle.bdb_entries.specs.Reading.{IsBare}
use Rattle.bdb_entries.proofs.ReadLemmas.{past}
use Rattle.bdb_decode.proofs.JudgeLemmas.{bare_damaged, format_damaged}
use Rattle.bdb_decode.proofs.judging.judge.Goals as goal

pub returns-in-Ok-Bare-clause-verdict : goal.returns-in-Ok-Bare-clause-verdict
returns-in-Ok-Bare-clause-verdict g c =
    let r = c.in-Ok-false in
    let bare = subst (TellsFormat (g.K.Keeper.seen c.is_empty.new.keeper).kept) c.in-Ok-Bare.field-0-is c.in-Ok-Bare.ensures.format in
    bare_damaged (g.K.Keeper.seen c.args.keeper.now).kept (past _ _ r.field-0 r.field-0-test r.ensures.empty) (subst (λ u. IsBare u 1) r.ensures.reading.kept bare)

pub returns-in-Ok-Damaged-clause-verdict : goal.returns-in-Ok-Damaged-clause-verdict
returns-in-Ok-Damaged-clause-verdict g c =
    let damaged = subst (TellsFormat (g.K.Keeper.seen c.is_empty.new.keeper).kept) c.in-Ok-Damaged.field-0-is c.in-Ok-Damaged.ensures.format in
    format_damaged (g.K.Keeper.seen c.args.keeper.now).kept (subst IsFormatDamaged c.in-Ok-false.ensures.reading.kept damaged)
