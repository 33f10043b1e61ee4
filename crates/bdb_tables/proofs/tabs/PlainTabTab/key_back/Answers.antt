use Rattle.std.proofs.Common.{◌≡◌, Err, ap}
use Rattle.std.proofs.lemmas.Result.{err_from_is_err_and}
use Rattle.bdb_key.specs.declared.part.KeyError.TheVariants.{NotAKey}
use Rattle.bdb_tables.proofs.Plain.{plain_none}
use Rattle.bdb_tables.proofs.tabs.PlainTabTab.key_back.Goals as goal

pub returns-in_err-tuple-clause-none : goal.returns-in_err-tuple-clause-none
returns-in_err-tuple-clause-none c e =
    let p = err_from_is_err_and c.from_residual-in_err-tuple.result c.from_residual-in_err-tuple.ensures.1 in
    let p1 = p.1 in
    let p2 = p.2 in
    let f : c.in_err-tuple.field-0.0 ≡ NotAKey = cc (p1, p2, e) in
    plain_none c.args.bytes.now c.in_ok-path.rest.now c.in_ok-path.path c.in_ok-path.ensures.ok (c.in_err-tuple.ensures.none (ap Err f))
