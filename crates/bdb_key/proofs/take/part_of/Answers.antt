use Rattle.std.proofs.Common.{◌≡◌, Err, ap}
use Rattle.std.proofs.lemmas.Result.{err_from_is_err_and}
use Rattle.bdb_key.specs.declared.part.KeyError.TheVariants.{NotAKey}
use Rattle.bdb_key.proofs.Keys.{vals_none}
use Rattle.bdb_key.proofs.take.part_of.Goals as goal

pub returns-in_err-values-in-Vals-clause-none : goal.returns-in_err-values-in-Vals-clause-none
returns-in_err-values-in-Vals-clause-none c e =
    let p = err_from_is_err_and c.from_residual-in_err-values-in-Vals.result c.from_residual-in_err-values-in-Vals.ensures.1 in
    let p1 = p.1 in
    let p2 = p.2 in
    let f : c.in_err-values-in-Vals.field-0.0 ≡ NotAKey = cc (p1, p2, e) in
    rw c.in-Vals.is (vals_none c.args.bytes.now (c.in_err-values-in-Vals.ensures.none (ap Err f)))
