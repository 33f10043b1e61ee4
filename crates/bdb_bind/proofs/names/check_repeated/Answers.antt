use Rattle.std.proofs.Common.{arith}
use Rattle.bdb_bind.proofs.Repeats.{first_repeated_at}
use Rattle.bdb_bind.proofs.names.check_repeated.Goals as goal

pub returns-then-has_name : goal.returns-then-has_name
returns-then-has_name c =
    let step = first_repeated_at c.args.cols.now c.loop-at.at c.index-cols-at.result (omega arith) c.index-cols-at.is in
    grind arith

pub loop-at-preserved : goal.loop-at-preserved
loop-at-preserved c =
    let step = first_repeated_at c.args.cols.now c.loop-at.at c.index-cols-at.result (omega arith) c.index-cols-at.is in
    grind arith
