use Rattle.std.proofs.Common.{subst, sym}
use Rattle.bdb_entries.specs.Format.{HasFormat}
use Rattle.bdb_entries.proofs.ReadLemmas.{none_told}
use Rattle.bdb_decode.proofs.FormerLemmas.{format_respelled}
use Rattle.bdb_decode.proofs.JudgeLemmas.{former_damaged}
use Rattle.bdb_decode.proofs.judging.judge_former.Goals as goal

pub raw_base-requires-clause-format : goal.raw_base-requires-clause-format
raw_base-requires-clause-format g c = subst (λ t. HasFormat t 3) (sym c.in-Ok.ensures.copy) (format_respelled (g.K.Keeper.seen c.args.keeper.now).kept c.requires.format)

pub returns-in-Ok-None-clause-verdict : goal.returns-in-Ok-None-clause-verdict
returns-in-Ok-None-clause-verdict g c =
    let r = c.in-Ok-None in
    former_damaged (g.K.Keeper.seen c.args.keeper.now).kept c.in-Ok.copy.kept c.in-Ok.ensures.copy c.requires.format (none_told _ _ r.field-0 r.field-0-is r.ensures.base)
