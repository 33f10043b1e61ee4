use Rattle.std.proofs.Common.{◌≡◌, subst, rules}
use Rattle.bdb_entries.specs.Format.{HasFormat}
use Rattle.bdb_entries.proofs.ReadLemmas.{none_told}
use Rattle.bdb_decode.proofs.JudgeLemmas.{base_damaged, other_format}
use Rattle.bdb_decode.proofs.judging.judge_format.Goals as goal

pub returns-then-number-ne-FORMAT-clause-verdict : goal.returns-then-number-ne-FORMAT-clause-verdict
returns-then-number-ne-FORMAT-clause-verdict g c =
    other_format (g.K.Keeper.seen c.args.keeper.now).kept c.args.number c.requires.format c.if-number-ne-FORMAT.true c.if-number-eq-FORMER.false

pub returns-in-Ok-None-clause-verdict : goal.returns-in-Ok-None-clause-verdict
returns-in-Ok-None-clause-verdict g c =
    let t = (g.K.Keeper.seen c.args.keeper.now).kept in
    let three : c.args.number ≡ 3 = search rules in
    base_damaged t (subst (HasFormat t) three c.requires.format) (none_told _ _ c.in-Ok-None.field-0 c.in-Ok-None.field-0-is c.in-Ok-None.ensures.base)
