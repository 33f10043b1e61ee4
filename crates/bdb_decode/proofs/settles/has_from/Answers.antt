use Rattle.std.proofs.Common.{sym}
use Rattle.bdb_decode.proofs.SettlesLemmas.{found_some}
use Rattle.bdb_decode.proofs.settles.has_from.Goals as goal

pub returns-then-row-tid : goal.returns-then-row-tid
returns-then-row-tid c = sym (found_some c.args.rows.now c.loop-place.place c.args.tid c.index-rows-place.result c.loop-place-test.true c.index-rows-place.is c.if-row-tid.true)
