use Rattle.std.proofs.Common.{arith}
use Rattle.bdb_val.proofs.NumberedLemmas.{rise}
use Rattle.bdb_val.proofs.numbered.are_rising.Goals as goal

pub returns : goal.returns
returns c _ = rise c.args.rows.now c.loop-at.at (omega arith) c.loop-at.invariant
