use Rattle.std.proofs.Common.{◌≡◌, ◌<◌, length, Err, ap, rules}
use Rattle.std.proofs.lemmas.Result.{err_from_is_err_and}
use Rattle.bdb_key.specs.declared.part.KeyError.TheVariants.{NotAKey}
use Rattle.bdb_key.specs.declared.part.Slot.TheVariants as slots
use Rattle.bdb_key.specs.Bytes.{part_bytes}
use Rattle.bdb_key.specs.Grammar.{FitsSlot}
use Rattle.bdb_key.specs.Reading.{NoneLeads}
use Rattle.bdb_key.proofs.Keys.{part_forms}
use Rattle.bdb_key.proofs.Readings.{seq_push, all_push, seq_none, seq_next}
use Rattle.bdb_key.proofs.take.rest_parts.Goals as goal

pub returns-in_err-part-clause-none : goal.returns-in_err-part-clause-none
returns-in_err-part-clause-none c e values h =
    let left = c.loop-rest.invariant.only values h in
    let some : 0 < length c.loop-rest.rest.now = search rules in
    let none : NoneLeads (FitsSlot slots.Rest) part_bytes c.loop-rest.rest.now =
    let p = err_from_is_err_and c.from_residual.result c.from_residual.ensures.1 in
    let p1 = p.1 in
    let p2 = p.2 in
    let f : c.in_err-part.field-0.0 ≡ NotAKey = cc (p1, p2, e) in
    c.in_err-part.ensures.none (ap Err f) in
    seq_none (part_forms slots.Rest) c.loop-rest.rest.now some none left.0 left.1

pub loop-rest-preserved : goal.loop-rest-preserved
loop-rest-preserved c = record {
  plain = rw c.in_ok-push.ensures.items (all_push (FitsSlot slots.Rest) c.loop-rest.parts.items c.in_ok-part.part c.loop-rest.invariant.plain c.in_ok-part.ensures.ok.fits);
  done = rw c.in_ok-push.ensures.items (seq_push part_bytes c.args.bytes.now c.loop-rest.rest.now c.in_ok-part.more.now c.loop-rest.parts.items c.in_ok-part.part c.loop-rest.invariant.done c.in_ok-part.ensures.ok.split);
  only = λ values h.
      let left = c.loop-rest.invariant.only values h in
      seq_next (part_forms slots.Rest) c.in_ok-part.part c.loop-rest.rest.now c.in_ok-part.more.now left.0 left.1 c.in_ok-part.ensures.ok;
}
