use Rattle.std.proofs.Common.{◌≡◌, ◌-◌, ◌+◌, suc, arith, subst}
use Rattle.bdb_key.specs.Grammar.{IsNum}
use Rattle.bdb_key.specs.Reading.{Leads, AreMany, nums_bytes}
use Rattle.bdb_key.proofs.Readings.{num_forms, many_push, many_next, many_none}
use Rattle.bdb_key.proofs.read.users_of.Goals as goal

pub returns-in-None-clause-none : goal.returns-in-None-clause-none
returns-in-None-clause-none c _ nums rest h =
    let left = c.loop.invariant.only nums rest h in
    let e : c.args.count - c.loop.counter ≡ suc (c.args.count - (c.loop.counter + 1)) = omega arith in
    many_none num_forms (c.args.count - (c.loop.counter + 1)) c.loop.rest.now c.in-None.ensures left.0 rest (subst (λ k. Leads (AreMany IsNum k) nums_bytes c.loop.rest.now left.0 rest) e left.1)

pub loop-preserved : goal.loop-preserved
loop-preserved c = record {
  done = rw c.in_ok-push.ensures.items (many_push num_forms c.loop.counter c.in-Some.found.0 c.args.bytes.now c.loop.rest.now c.in-Some.found.1.now c.loop.users.items c.loop.invariant.done c.in-Some.ensures);
  only = λ nums rest h.
      let left = c.loop.invariant.only nums rest h in
      let e : c.args.count - c.loop.counter ≡ suc (c.args.count - (c.loop.counter + 1)) = omega arith in
      many_next num_forms (c.args.count - (c.loop.counter + 1)) c.in-Some.found.0 c.loop.rest.now c.in-Some.found.1.now left.0 rest (subst (λ k. Leads (AreMany IsNum k) nums_bytes c.loop.rest.now left.0 rest) e left.1) c.in-Some.ensures;
}
