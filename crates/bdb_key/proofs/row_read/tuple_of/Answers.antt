use Rattle.std.proofs.Common.{◌≡◌, length, rules}
use Rattle.bdb_key.proofs.Readings.{tuple_no_vals}
use Rattle.bdb_key.proofs.row_read.tuple_of.Goals as goal

pub returns-then-is_empty-clause-none : goal.returns-then-is_empty-clause-none
returns-then-is_empty-clause-none c _ =
    let nothing : length c.in_ok-vals.vals ≡ 0 = search rules in
    tuple_no_vals c.args.bytes.now c.in-Some.rest.now c.in-Some.rel c.in_ok-vals.vals c.in-Some.ensures c.in_ok-vals.ensures.ok nothing
