use Rattle.std.proofs.Common.{◌∙◌, Err, ap, inl, inr, refl}
use Rattle.bdb_base.specs.Bases.{empty_contents}
use Rattle.bdb_undo.specs.Timelines.{started}
use Rattle.bdb_session.specs.Runs.{events_of}
use Rattle.bdb_top.proofs.GeneratedLemmas.{summary_is}
use Rattle.bdb_top.proofs.generated.summary_of.Goals as goal

pub returns : goal.returns
returns c =
    let opened = c.in-Ok.ensures.opened empty_contents (inr (inl (ap (λ k. k.kept) c.new-keeper.ensures, refl))) in
    let start = started empty_contents in
    let end = c.in-Ok-tally_script.ensures.state start opened in
    c.in_ok-text.ensures
    ∙ summary_is (events_of c.args.script.now) c.in-Ok-tally_script.tally c.counts-counts.result.now c.from.result c.from-2.result
    (c.in-Ok-tally_script.ensures.tally start opened) (c.counts-counts.ensures ∙ end.agrees.counts) c.from.ensures c.from-2.ensures

pub unreachable-requires-in-Err-Damaged : goal.unreachable-requires-in-Err-Damaged
unreachable-requires-in-Err-Damaged c = (c.in-Err-Damaged.ensures.damaged (ap Err c.in-Err-Damaged.field-0-is)).none empty_contents (inr (inl (ap (λ k. k.kept) c.new-keeper.ensures, refl)))

pub unreachable-requires-in-Err-Format : goal.unreachable-requires-in-Err-Format
unreachable-requires-in-Err-Format c = (c.in-Err-Format.ensures.format _ (ap Err c.in-Err-Format.field-0-is)).none empty_contents (inr (inl (ap (λ k. k.kept) c.new-keeper.ensures, refl)))
