use Rattle.std.proofs.Common.{◌^◌, arith}
use Rattle.std.proofs.lemmas.Nat.{mul-le}
use Rattle.bdb_base.specs.Limits.{most_users}
use Rattle.bdb_session.proofs.show.lines_by.Goals as goal

pub overflow_add-result-4 : goal.overflow_add-result-4
overflow_add-result-4 c =
    let bound = mul-le c.saturating_sub.result c.saturating_sub-2.result (2 ^ 32) most_users (omega arith) (omega arith) in
    omega (arith, bound)

pub overflow_add-result-5 : goal.overflow_add-result-5
overflow_add-result-5 c =
    let bound = mul-le c.saturating_sub.result c.saturating_sub-2.result (2 ^ 32) most_users (omega arith) (omega arith) in
    omega (arith, bound)
