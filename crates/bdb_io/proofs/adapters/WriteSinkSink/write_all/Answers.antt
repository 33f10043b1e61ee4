use Rattle.std.proofs.Common.{rules}
use Rattle.bdb_io.proofs.Fronts.{appends_more}
use Rattle.bdb_io.proofs.adapters.WriteSinkSink.write_all.Goals as goal

pub loop-from-preserved : goal.loop-from-preserved
loop-from-preserved g c = (search rules, appends_more _ _ _ c.args.bytes.now c.loop-from.from c.in-Ok.count c.loop-from.invariant.1 c.in-Ok.ensures.bytes, search rules)
