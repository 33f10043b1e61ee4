use Rattle.std.proofs.Common.{◌≡◌, ◌<◌, length, Err, ap, rules}
use Rattle.std.proofs.lemmas.Result.{err_from_is_err_and}
use Rattle.bdb_key.specs.declared.part.KeyError.TheVariants.{NotAKey}
use Rattle.bdb_key.proofs.Readings.{text_more, text_reads_none}
use Rattle.bdb_key.proofs.row_read.only_text.Goals as goal

pub returns-in_err-text-clause-none : goal.returns-in_err-text-clause-none
returns-in_err-text-clause-none c e =
    let p = err_from_is_err_and c.from_residual.result c.from_residual.ensures.1 in
    let p1 = p.1 in
    let p2 = p.2 in
    let f : c.in_err-text.field-0.0 ≡ NotAKey = cc (p1, p2, e) in
    text_reads_none c.args.bytes.now (c.in_err-text.ensures.none (ap Err f))

pub returns-then-not-is_empty-clause-none : goal.returns-then-not-is_empty-clause-none
returns-then-not-is_empty-clause-none c _ =
    let some : 0 < length c.in_ok-text.rest.now = search rules in
    text_more c.args.bytes.now c.in_ok-text.rest.now c.in_ok-text.text c.in_ok-text.ensures.ok some
