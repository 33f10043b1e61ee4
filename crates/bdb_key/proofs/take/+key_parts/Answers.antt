use Rattle.std.proofs.Common.{rules}
use Rattle.bdb_key.specs.Grammar.{IsOne}
use Rattle.bdb_key.proofs.Keys.{key_none_after}
use Rattle.bdb_key.proofs.take.+key_parts.Goals as goal

pub returns-in-Err-clause-none : goal.returns-in-Err-clause-none
returns-in-Err-clause-none t c e =
    let one : IsOne c.in-Some.slot = search rules in
    rw c.in-Some.ensures
    (key_none_after c.in-Some.slot c.in-Some.more.now one c.args.bytes.now c.in_ok-part.rest.now c.in_ok-part.part c.in_ok-part.ensures.ok (c.in-Err.ensures.none e))
