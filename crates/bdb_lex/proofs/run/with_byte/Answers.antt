use Rattle.std.proofs.Common.{sym, refl}
use Rattle.bdb_lex.proofs.CutLemmas.{or_first, or_later, runs_more}
use Rattle.bdb_lex.proofs.run.with_byte.Goals as goal

pub returns-then-run-clause-leads : goal.returns-then-run-clause-leads
returns-then-run-clause-leads c m h =
    rw (c.next_mode.ensures) (runs_more m h c.args.bytes.now c.args.run c.args.run.holds c.requires.byte c.requires.goes_on
    (or_first _ _ _ c.if-run.true refl))

pub returns-else-run-clause-leads : goal.returns-else-run-clause-leads
returns-else-run-clause-leads c m h =
    rw (c.next_mode.ensures) (runs_more m h c.args.bytes.now c.args.run c.shows.result c.requires.byte c.requires.goes_on
    (or_later _ _ _ _ c.if-run.false refl (sym c.shows.ensures)))
