use Rattle.std.proofs.Common.{◌≤◌, length, arith}
use Rattle.bdb_memory.proofs.ManyLemmas.{taken-all}
use Rattle.bdb_memory.proofs.many.take_rows.Goals as goal

pub returns-clause-rows : goal.returns-clause-rows
returns-clause-rows c =
    let end : length c.args.span.now ≤ c.loop-index.index = omega (arith, c.len-index-end.ensures, c.loop-index-test.false) in
    taken-all c.args.span.now c.loop-index.index c.args.tab _ _ end c.loop-index.invariant.0
