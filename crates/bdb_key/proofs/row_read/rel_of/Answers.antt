use Rattle.std.proofs.Common.{◌≡◌, Err, ap, rules}
use Rattle.std.proofs.lemmas.Result.{err_from_is_err_and}
use Rattle.bdb_key.specs.declared.part.KeyError.TheVariants.{NotAKey}
use Rattle.bdb_key.proofs.Readings.{rel_no_length, rel_none, rel_no_key}
use Rattle.bdb_key.proofs.row_read.rel_of.Goals as goal

pub returns-in_default-clause-none : goal.returns-in_default-clause-none
returns-in_default-clause-none c _ =
    rel_no_length c.args.bytes.now c.in_ok-name.rest.now c.in_ok-name.name c.in_ok-name.ensures.ok c.in_default.ensures

pub returns-in_err-cols-clause-none : goal.returns-in_err-cols-clause-none
returns-in_err-cols-clause-none c e =
    let p = err_from_is_err_and c.from_residual-in_err-cols.result c.from_residual-in_err-cols.ensures.1 in
    let p1 = p.1 in
    let p2 = p.2 in
    let f : c.in_err-cols.field-0.0 ≡ NotAKey = cc (p1, p2, e) in
    rel_none c.args.bytes.now c.in_ok-name.rest.now c.in_ok-name.name c.in_ok-name.ensures.ok c.in-Some.rest.now c.in-Some.key c.in-Some.ensures (c.in_err-cols.ensures.none (ap Err f))

pub returns-then-not-is_key-clause-none : goal.returns-then-not-is_key-clause-none
returns-then-not-is_key-clause-none c _ =
    rel_no_key c.args.bytes.now c.in_ok-name.rest.now c.in_ok-name.name c.in_ok-name.ensures.ok c.in-Some.rest.now c.in-Some.key c.in-Some.ensures
    c.in_ok-cols.cols c.in_ok-cols.ensures.ok (search rules)
