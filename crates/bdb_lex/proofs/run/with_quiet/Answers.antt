use Rattle.std.proofs.Common.{sym, refl}
use Rattle.bdb_lex.proofs.CutLemmas.{or_first, or_later, runs_quiet}
use Rattle.bdb_lex.proofs.run.with_quiet.Goals as goal

pub returns-then-run-clause-leads : goal.returns-then-run-clause-leads
returns-then-run-clause-leads c m h =
    runs_quiet m h c.args.bytes.now _ c.args.run c.quiet_len-len.result c.args.run.holds c.split_at.ensures.back c.quiet_len-len.ensures.quiet
    (or_first _ _ _ c.if-run.true refl)

pub returns-else-run-clause-leads : goal.returns-else-run-clause-leads
returns-else-run-clause-leads c m h =
    runs_quiet m h c.args.bytes.now _ c.args.run c.quiet_len-len.result c.show.result c.split_at.ensures.back c.quiet_len-len.ensures.quiet
    (or_later _ _ _ _ c.if-run.false refl (sym c.show.ensures))
