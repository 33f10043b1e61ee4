use Rattle.std.proofs.Common.{◌≡◌, ◌-◌, ◌+◌, suc, Err, ap, arith, subst}
use Rattle.std.proofs.lemmas.Result.{err_from_is_err_and}
use Rattle.bdb_key.specs.declared.part.KeyError.TheVariants.{NotAKey}
use Rattle.bdb_key.specs.Bytes.{value_bytes, values_bytes}
use Rattle.bdb_key.specs.Grammar.{IsPlainValue}
use Rattle.bdb_key.specs.Reading.{Leads, NoneLeads, AreMany}
use Rattle.bdb_key.proofs.Readings.{value_forms, many_push, many_next, many_none}
use Rattle.bdb_key.proofs.read.counted_values_of.Goals as goal

pub returns-in_err-value-clause-none : goal.returns-in_err-value-clause-none
returns-in_err-value-clause-none c e values rest h =
    let left = c.loop.invariant.only values rest h in
    let next : c.args.count - c.loop.counter ≡ suc (c.args.count - (c.loop.counter + 1)) = omega arith in
    let none : NoneLeads IsPlainValue value_bytes c.loop.rest.now =
    let p = err_from_is_err_and c.from_residual.result c.from_residual.ensures.1 in
    let p1 = p.1 in
    let p2 = p.2 in
    let f : c.in_err-value.field-0.0 ≡ NotAKey = cc (p1, p2, e) in
    c.in_err-value.ensures.none (ap Err f) in
    many_none value_forms (c.args.count - (c.loop.counter + 1)) c.loop.rest.now none left.0 rest (subst (λ k. Leads (AreMany IsPlainValue k) values_bytes c.loop.rest.now left.0 rest) next left.1)

pub loop-preserved : goal.loop-preserved
loop-preserved c = record {
  done = rw c.in_ok-push.ensures.items (many_push value_forms c.loop.counter c.in_ok-value.value c.args.bytes.now c.loop.rest.now c.in_ok-value.more.now c.loop.values.items c.loop.invariant.done c.in_ok-value.ensures.ok);
  only = λ values rest h.
      let left = c.loop.invariant.only values rest h in
      let next : c.args.count - c.loop.counter ≡ suc (c.args.count - (c.loop.counter + 1)) = omega arith in
      many_next value_forms (c.args.count - (c.loop.counter + 1)) c.in_ok-value.value c.loop.rest.now c.in_ok-value.more.now left.0 rest (subst (λ k. Leads (AreMany IsPlainValue k) values_bytes c.loop.rest.now left.0 rest) next left.1) c.in_ok-value.ensures.ok;
}
