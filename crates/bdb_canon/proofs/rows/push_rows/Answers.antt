use Rattle.std.proofs.Common.{arith}
use Rattle.bdb_base.specs.OrderLemmas.{tuple_exact}
use Rattle.bdb_paths.proofs.PlaceLemmas.{place_within}
use Rattle.bdb_canon.proofs.rows.push_rows.Goals as goal

pub overflow_cast-tuple : goal.overflow_cast-tuple
overflow_cast-tuple c =
    let within = place_within tuple_exact c.args.tuples.now c.held-item.result.tuple in
    omega arith
