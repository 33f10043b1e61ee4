use Rattle.std.proofs.Common.{◌≡◌, ◌<◌, length, Err, ap, rules}
use Rattle.std.proofs.lemmas.Result.{err_from_is_err_and}
use Rattle.bdb_key.specs.declared.part.KeyError.TheVariants.{NotAKey}
use Rattle.bdb_key.specs.Rows.{IsCol, col_bytes}
use Rattle.bdb_key.specs.Reading.{NoneLeads}
use Rattle.bdb_key.proofs.Readings.{col_forms, seq_push, all_push, seq_none, seq_next}
use Rattle.bdb_key.proofs.row_read.cols_of.Goals as goal

pub returns-in_err-col-clause-none : goal.returns-in_err-col-clause-none
returns-in_err-col-clause-none c e values h =
    let left = c.loop-rest.invariant.only values h in
    let some : 0 < length c.loop-rest.rest.now = search rules in
    let none : NoneLeads IsCol col_bytes c.loop-rest.rest.now =
    let p = err_from_is_err_and c.from_residual.result c.from_residual.ensures.1 in
    let p1 = p.1 in
    let p2 = p.2 in
    let f : c.in_err-col.field-0.0 ≡ NotAKey = cc (p1, p2, e) in
    c.in_err-col.ensures.none (ap Err f) in
    seq_none col_forms c.loop-rest.rest.now some none left.0 left.1

pub loop-rest-preserved : goal.loop-rest-preserved
loop-rest-preserved c = record {
  plain = rw c.in_ok-push.ensures.items (all_push IsCol c.loop-rest.cols.items c.in_ok-col.col c.loop-rest.invariant.plain c.in_ok-col.ensures.ok.fits);
  done = rw c.in_ok-push.ensures.items (seq_push col_bytes c.args.bytes.now c.loop-rest.rest.now c.in_ok-col.more.now c.loop-rest.cols.items c.in_ok-col.col c.loop-rest.invariant.done c.in_ok-col.ensures.ok.split);
  only = λ values h.
      let left = c.loop-rest.invariant.only values h in
      seq_next col_forms c.in_ok-col.col c.loop-rest.rest.now c.in_ok-col.more.now left.0 left.1 c.in_ok-col.ensures.ok;
}
